-- One window is sent something.
use Rattle.std.specs.Prelude.{◌≡◌, ◌≢◌, ◌≤◌, ℕ, ◌+◌, ◌-◌, not, true, List, [], ◌∷◌, length, map, Option}
use Rattle.std.specs.Option.{option_copied}
use Rattle.bits32.specs.Set.{is_in}
use Rattle.input_types.specs.declared.message.Body.{Body}
use Rattle.input_types.specs.declared.message.Body.TheVariants.{Key}
use Rattle.input_types.specs.declared.motion.Motion.{Motion}
use Rattle.input_types.specs.declared.pointer.Pointer.{Pointer}
use Rattle.window_snapshot.specs.Mask.{mask_has}
use Rattle.routing_rules.specs.Scene.{Scene, Step}
use Rattle.touch_state.specs.Touches.{Touches}
use Rattle.pilfer_monitor.specs.Pilfer.{set_of}
use Rattle.route_split.specs.declared.mark.Mark.{Mark}
use Rattle.route_split.specs.declared.mark.Mark.TheVariants.{Pilfer}
use Rattle.route_split.specs.declared.sends.Sends.{Sends}
use Rattle.route_split.specs.declared.sends.Sends.TheVariants.{Nothing, One, Cancels}
use Rattle.route_split.specs.Tables.{holds_at}
use Rattle.route_split.specs.Marking.{IsChanged}
use Rattle.dispatcher.specs.CancelSynthesis.Ends.{pointers_cancelled}
use Rattle.dispatcher.specs.CancelSynthesis.Tracked.{Tracked, pointers_of}
use Rattle.dispatcher.specs.KeyTables.Held.{bodies_tracked}
use Rattle.dispatcher.specs.DispatchChannels.Table.{Table, opened, IsOpened, channel_of, input_of}
use Rattle.dispatcher.specs.declared.dispatch_round.round.Round.{Round}
use Rattle.dispatcher.specs.declared.dispatch_round.listener.Listener.{Listener}
use Rattle.dispatcher.specs.DispatchRound.Bodies.{TracksAll, keys_to, motions_of, told}
use Rattle.dispatcher.specs.DispatchRound.Rounds.{IsRound, HoldsPointers, sent_in, most_motions, most_bodies}
use Rattle.dispatcher.specs.DispatchRound.Outgoing.{with_bodies}

-- a live channel has room for n more bodies
pub record CanBeSent (w n : ℕ) (t : Table) : Type 0 where
  pub live : mask_has t.live w ≡ true
  pub opened : IsOpened t w
  pub room : n ≤ (channel_of t w).spare
  pub track_room : n ≤ (input_of t w).spare

-- A channel is sent bodies in order, and they are tracked. Everything else stays.
pub record SendsOne (to : Listener) (bodies : List Body) (old new : Table) : Type 0 where
  pub channel_is : channel_of new to.window ≡ with_bodies bodies to.origin to.clock (channel_of old to.window)
  pub tracks : TracksAll (input_of old to.window) (input_of new to.window) bodies
  pub track_spare : (input_of new to.window).spare ≡ (input_of old to.window).spare - length bodies
  pub others :
      (k : ℕ) → 1 ≤ k → k ≢ to.window → (channel_of new k ≡ channel_of old k) × (input_of new k ≡ input_of old k)
  pub as_many : opened new ≡ opened old
  pub live_is : new.live ≡ old.live
  pub able_is : new.able ≡ old.able
  pub anrs_are : new.anrs ≡ old.anrs

-- the motions that a window is sent, if these are its pointers of the device
abbrev pub motions_by : Sends → (d : ℕ) → List Pointer → List Motion
motions_by Nothing d had = []
motions_by (One m) d had = m ∷ []
motions_by (Cancels lost) d had = pointers_cancelled d (λ i. is_in i lost) had

-- the cancels of those pointers of a device that are down in the stream of a window which, by the tables, does not hold them
abbrev pub losses : List Touches → (w : ℕ) → Tracked → (d : ℕ) → List Motion
losses ts w input d = pointers_cancelled d (λ i. not (holds_at ts w d i)) (pointers_of input d)

-- the cancels of what a window lost to one that pilfers
abbrev pub pilfered_from : Mark → (lost : List ℕ) → (w : ℕ) → Tracked → List Motion
pilfered_from (Pilfer device spy) lost w input = pointers_cancelled device (λ i. is_in i (set_of lost w)) (pointers_of input device)
pilfered_from k lost w input = []

-- A window is sent at most so many motions as there may be. In each scene in which the tables changed by the mark of the
-- step, they are those of the rules.
pub record GetsMotions (r : Round) (ts : List Touches) (losses : Option (List ℕ)) (to : Listener) (old new : Table) : Type 0 where
  pub motions : List Motion
  pub few : length motions ≤ most_motions (option_copied r.motion) (input_of old to.window)
  pub outgoing : SendsOne to (told to.covers.now to.window motions) old new
  pub by_rules :
      (s : Scene) (e : Step) (before : List Touches)
      → IsChanged before ts r.mark losses
      → IsRound s e before r → HoldsPointers s to.window (input_of old to.window) → motions ≡ motions_of s e to.window

-- What a window is sent uses no more room than the most that it may be sent. The keys that are down in it afterwards are those that the
-- keys of the round leave.
pub record Spends (r : Round) (w : ℕ) (old new : Table) : Type 0 where
  pub room : (channel_of old w).spare ≤ (channel_of new w).spare + most_bodies r w (input_of old w)
  pub track_room : (input_of old w).spare ≤ (input_of new w).spare + most_bodies r w (input_of old w)
  pub keys_are : (input_of new w).keys ≡ bodies_tracked (map Key (keys_to r.target r.keys.now w)) (input_of old w).keys

-- A window is sent bodies: in each scene, those of the round.
pub record GetsRound (r : Round) (ts : List Touches) (losses : Option (List ℕ)) (to : Listener) (old new : Table) : Type 0 where
  pub bodies : List Body
  pub outgoing : SendsOne to bodies old new
  pub spends : Spends r to.window old new
  pub by_rules :
      (s : Scene) (e : Step) (before : List Touches)
      → IsChanged before ts r.mark losses
      → IsRound s e before r → HoldsPointers s to.window (input_of old to.window) → bodies ≡ sent_in to.covers.now r s e to.window
