-- One step of the dispatcher, as it is sent to its windows.
use Rattle.std.specs.Prelude.{◌≡◌, ◌≤◌, ℕ, ◌+◌, max, ◌&&◌, ◌||◌, Bool, true, false, List, [], ◌∷◌, length, Option, Some, None}
use Rattle.std.specs.List.{list_any}
use Rattle.std.specs.Option.{option_copied}
use Rattle.input_types.specs.declared.key.KeyMsg.{KeyMsg}
use Rattle.dispatcher.specs.InputChannel.Order.{NoneAfter}
use Rattle.input_types.specs.declared.message.Body.{Body}
use Rattle.input_types.specs.declared.motion.Motion.{Motion}
use Rattle.window_snapshot.specs.Mask.{mask_has, mask_with}
use Rattle.routing_rules.specs.Scene.{Scene, Step, Moves}
use Rattle.routing_rules.specs.Given.{changed, mark}
use Rattle.routing_rules.specs.Outgoing.{listing, devices}
use Rattle.touch_state.specs.Touches.{Touches}
use Rattle.route_split.specs.declared.mark.Mark.{Mark}
use Rattle.route_split.specs.declared.mark.Mark.TheVariants.{NoOp, Forget}
use Rattle.route_split.specs.Marking.{IsMark, IsStepOf, may_be_sent}
use Rattle.route_split.specs.Tables.{Stands}
use Rattle.route_split.specs.Sending.{IsListed}
use Rattle.routing_rules.specs.Watching.{is_watching}
use Rattle.dispatcher.specs.InputChannel.State.{with_spare}
use Rattle.dispatcher.specs.CancelSynthesis.Tracked.{Tracked, pointers_of}
use Rattle.dispatcher.specs.WindowCovers.Covers.{CoverTable}
use Rattle.dispatcher.specs.CancelSynthesis.Tracked.{with_spare as tracked_with_spare}
use Rattle.dispatcher.specs.KeyTables.Focused.{change_of, change_sent}
use Rattle.dispatcher.specs.DispatchChannels.Table.{Table, opened, channel_of, input_of}
use Rattle.dispatcher.specs.declared.dispatch_round.round.Round.{Round}
use Rattle.dispatcher.specs.DispatchRound.Bodies.{motions_of, keys_to, bodies_of}

-- The step is this motion and has this mark; the last motion of its device lists what windows hold of the device; these windows watch for it
-- outside of them. A step without a motion has this mark.
abbrev pub IsStepIn : Scene → List Touches → Mark → Option Motion → (watchers : ℕ) → Step → Type 0
IsStepIn s ts k (Some m) watchers e =
    (e ≡ Moves m)
    × IsMark ts k (mark s (Moves m))
    × IsListed s m.device
    × ((w : ℕ) → mask_has watchers w ≡ is_watching s m (changed m) w)
IsStepIn s ts k None watchers e = IsStepOf k e

-- the round is that of a step in a scene, for which the tables of touches stand
pub record IsRound (s : Scene) (e : Step) (ts : List Touches) (r : Round) : Type 0 where
  pub stands : Stands s ts
  pub step_is : IsStepIn s ts r.mark (option_copied r.motion) r.watchers e

-- what is kept of a window are the pointers that it holds, at their last places
abbrev pub HoldsPointers : Scene → ℕ → Tracked → Type 0
HoldsPointers s w input = (d : ℕ) → 1 ≤ d → d ≤ 8 → pointers_of input d ≡ listing (s.holds w d) (s.last d)

-- the same for each live window
abbrev pub AllHoldPointers : Scene → Table → Type 0
AllHoldPointers s t = (w : ℕ) → mask_has t.live w ≡ true → HoldsPointers s w (input_of t w)

-- what a window is sent in a round, by what lies over it after the step
abbrev pub sent_in : CoverTable → Round → Scene → Step → ℕ → List Body
sent_in covers r s e w = bodies_of covers w (motions_of s e w) (keys_to r.target r.keys.now w) (change_of r.lost r.gained w)

-- pointers may be taken from windows by a step that is no motion and has this mark
abbrev pub may_take : Mark → Bool
may_take NoOp = false
may_take (Forget window) = false
may_take k = true

-- a window may be sent a motion: one of a device that it holds something of, that gives it something or that it watches for; or cancels of
-- whatever it holds
abbrev pub may_reach : List Touches → Mark → Option Motion → (watchers : ℕ) → ℕ → Bool
may_reach ts k (Some m) watchers w = may_be_sent ts k w m.device || mask_has watchers w
may_reach ts k None watchers w = may_take k && list_any (may_be_sent ts k w) devices

-- the window that is sent keys, as a mask
abbrev pub keyed : List KeyMsg → (target : ℕ) → ℕ
keyed [] target = 0
keyed (m ∷ ms) target = mask_with 0 target

-- it may be sent something in a round
abbrev pub is_concerned : List Touches → Round → ℕ → Bool
is_concerned ts r w =
    may_reach ts r.mark (option_copied r.motion) r.watchers w
    || mask_has (keyed r.keys.now r.target) w
    || mask_has r.lost w
    || mask_has r.gained w

-- a mask has the live windows that may be sent something, all of which were opened
pub record AreListeners (outgoing : ℕ) (ts : List Touches) (r : Round) (t : Table) : Type 0 where
  pub are : (w : ℕ) → mask_has outgoing w ≡ (is_concerned ts r w && mask_has t.live w)
  pub opened : (w : ℕ) → mask_has outgoing w ≡ true → w ≤ opened t

-- how many pointers of these devices it has
abbrev pub count_of : Tracked → List ℕ → ℕ
count_of input [] = 0
count_of input (d ∷ ds) = length (pointers_of input d) + count_of input ds

-- the most motions that it is sent
abbrev pub most_motions : Option Motion → Tracked → ℕ
most_motions (Some m) input = max 1 (length (pointers_of input m.device))
most_motions None input = count_of input devices

-- the most bodies that it is sent in a round
abbrev pub most_bodies : Round → (w : ℕ) → Tracked → ℕ
most_bodies r w input =
    most_motions (option_copied r.motion) input
    + length (keys_to r.target r.keys.now w)
    + length (change_sent (change_of r.lost r.gained w))

-- A bound on what it is sent, whatever the window holds: the cancels of 16 pointers of each of 8 devices, its keys, and a change of the focus.
abbrev pub most_sent : Round → (w : ℕ) → ℕ
most_sent r w = 129 + length (keys_to r.target r.keys.now w)

-- there is room for that many
pub record HasMostRoom (r : Round) (t : Table) (w : ℕ) : Type 0 where
  pub room : most_sent r w ≤ (channel_of t w).spare
  pub track_room : most_sent r w ≤ (input_of t w).spare

-- it is sent no more than that
abbrev pub IsFew : Round → Table → (w : ℕ) → Type 0
IsFew r t w = most_bodies r w (input_of t w) ≤ most_sent r w

-- there is room for all of them
pub record HasRoom (r : Round) (t : Table) (w : ℕ) : Type 0 where
  pub room : most_bodies r w (input_of t w) ≤ (channel_of t w).spare
  pub track_room : most_bodies r w (input_of t w) ≤ (input_of t w).spare

-- the same for each live window that may be sent something
abbrev pub IsReady : List Touches → Round → Table → Type 0
IsReady ts r t = (w : ℕ) → mask_has t.live w ≡ true → is_concerned ts r w ≡ true → HasRoom r t w

-- no unfinished message of a live channel was delivered after a clock
abbrev pub IsTimely : (clock : ℕ) → Table → Type 0
IsTimely clock t = (c : ℕ) → mask_has t.live c ≡ true → NoneAfter clock (channel_of t c).unfinished

-- a channel, and what is kept of its window, have room for just the most bodies that the window is sent, or the room that they had
abbrev pub HasMadeRoom : Round → (old new : Table) → ℕ → Type 0
HasMadeRoom r old new w =
    let most = most_bodies r w (input_of old w) in
    (channel_of new w ≡ with_spare most (channel_of old w)) × (input_of new w ≡ tracked_with_spare most (input_of old w))

-- both are as they were
abbrev pub IsLeft : (old new : Table) → ℕ → Type 0
IsLeft old new w = (channel_of new w ≡ channel_of old w) × (input_of new w ≡ input_of old w)

-- room is made in the live channels that may be sent something, and in no others
pub record MakesRoom (ts : List Touches) (r : Round) (old new : Table) : Type 0 where
  pub made : (w : ℕ) → (is_concerned ts r w && mask_has old.live w) ≡ true → HasMadeRoom r old new w
  pub left : (w : ℕ) → 1 ≤ w → (is_concerned ts r w && mask_has old.live w) ≡ false → IsLeft old new w
