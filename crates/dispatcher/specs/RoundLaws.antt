-- Proved facts about steps that send something: a round sends what its step sends.
use Rattle.std.specs.Prelude.{◌≡◌, [], bit_and, false, ◌≤◌, ℕ, Bool, true, ◌&&◌, List, map, slice_get, Option, Some, None}
use Rattle.std.specs.Option.{option_copied}
use Rattle.input_types.specs.declared.key.KeyArgs.{KeyArgs}
use Rattle.input_types.specs.declared.axis.Pixel.{Pixel}
use Rattle.input_types.specs.declared.message.Body.{Body}
use Rattle.input_types.specs.declared.message.Args.TheVariants.{Motion as MotionArgs, Key as KeyOfDevice, Reset}
use Rattle.input_types.specs.declared.motion.Motion.{Motion}
use Rattle.window_snapshot.specs.declared.window.Window.{Window}
use Rattle.window_snapshot.specs.declared.reach.Reach.{Reach}
use Rattle.window_snapshot.specs.Mask.{mask_has, mask_with, is_channel}
use Rattle.window_snapshot.specs.Named.{is_shown_on}
use Rattle.focus_resolver.specs.Changes.{IsOnlyIn}
use Rattle.focus_resolver.specs.Resolver.{FocusState, is_focused, focus_of, target_of}
use Rattle.routing_rules.specs.Scene.{Scene, Step, Moves, stays}
use Rattle.routing_rules.specs.Given.{changed, mark as rule_mark}
use Rattle.route_split.specs.declared.mark.Mark.{Mark}
use Rattle.route_split.specs.declared.mark.Mark.TheVariants.{NoOp, Empty, Pilfer as PilferMark, Unnamed, Mute, Forget}
use Rattle.route_split.specs.Marking.{IsMark}
use Rattle.route_split.specs.Seen.{Sees}
use Rattle.route_split.specs.Tables.{Stands}
use Rattle.routing_rules.specs.Watching.{is_watching}
use Rattle.dispatcher.specs.InputChannel.Order.{NoneAfter}
use Rattle.input_types.specs.Displays.{device_display}
use Rattle.dispatch_calls.specs.declared.call.Call.{Call}
use Rattle.dispatch_calls.specs.declared.call.Call.TheVariants.{Open, Windows, FocusOn, Pump, Tick, Pilfer, Remove}
use Rattle.dispatch_calls.specs.declared.reply.Reply.{Reply}
use Rattle.dispatch_calls.specs.declared.reply.Reply.TheVariants.{Opened, Done, Dispatched, Repeated, Named}
use Rattle.dispatch_history.specs.History.{live, origin}
use Rattle.dispatch_history.specs.Effect.{Effect, past_of}
use Rattle.dispatch_history.specs.Effects.{step, said_at}
use Rattle.dispatch_history.specs.PointerOf.{RisesIn}
use Rattle.dispatch_history.specs.Reply.{reply_to}
use Rattle.dispatch_history.specs.Step.{scene}
use Rattle.dispatcher.specs.DispatchChannels.FromOrigin.{body_from}
use Rattle.dispatcher.specs.DispatchChannels.Table.{Table, channel_of, input_of, but_for_room}
use Rattle.dispatcher.specs.DispatchChannels.Changes.{OpensChannel}
use Rattle.dispatcher.specs.declared.dispatch_round.round.Round.{Round}
use Rattle.dispatcher.specs.DispatchRound.Rounds.{IsStepIn, IsRound, AllHoldPointers, sent_in}
use Rattle.dispatcher.specs.DispatchRound.Outgoing.{SendsAll}
use Rattle.dispatcher.specs.Covering.{IsGiftAt}
use Rattle.dispatcher.specs.Pointing.{step_at}
use Rattle.dispatcher.specs.Knows.{Kept, KeptStandsFor}
use Rattle.dispatcher.specs.Staying.{delivery_of}
use Rattle.dispatcher.specs.Sending.{parted_in, is_sending, sent_target, AreKeys, SendsFocus, Refocuses, OpensWith, GoesRound, GoesRemoved}
use Rattle.dispatcher.specs.Tracking.{bodies_at}
use Rattle.dispatch_calls.specs.declared.terms.Terms.{Terms}

-- A window that is live after a step is sent the bodies of the step, with positions relative to the origin of the window.
abbrev pub SaidLaw : Type 0
SaidLaw =
    (displays : List ℕ) (call : Call) (answer : Reply) (es : List Effect) (w : ℕ)
    → live (past_of (step displays call answer es)) w ≡ true
    → said_at displays call answer es w ≡ map (body_from (origin (past_of es) w)) (bodies_at displays call answer es w)

-- Tables that a round of a step changed stand for the history with that step added. Channels may have been given room before
-- the round.
abbrev pub RoundLaw : Type 0
RoundLaw =
    (displays : List ℕ) (call : Call) (answer : Reply) (es : List Effect) (k later : Kept) (r : Round) (first t u : Table) (changed : ℕ)
    → KeptStandsFor displays es k
    → k.delivery ≡ delivery_of first
    → k.inputs ≡ input_of first
    → but_for_room t ≡ but_for_room first
    → answer ≡ reply_to es call
    → RisesIn call
    → is_sending call answer ≡ true
    → GoesRound call answer r (parted_in call answer later.queue.clock t).live k later
    → IsStepIn (scene displays es) k.touches r.mark (option_copied r.motion) r.watchers (step_at call answer es)
    → IsGiftAt displays call answer es r.gift
    → ((s : Scene) (e : Step)
    → IsRound s e k.touches r
    → AllHoldPointers s (parted_in call answer later.queue.clock t)
    → SendsAll changed (sent_in later.covers r s e) k.shown.origins later.queue.clock (parted_in call answer later.queue.clock t) u)
    → later.delivery ≡ delivery_of u
    → later.inputs ≡ input_of u
    → KeptStandsFor displays (step displays call answer es) later

-- A round releases no message.
abbrev pub GoneLaw : Type 0
GoneLaw =
    (changed : ℕ) (outgoing : ℕ → List Body) (origins : List Pixel) (clock : ℕ) (old new : Table)
    → SendsAll changed outgoing origins clock old new
    → (c : ℕ)
    → 1 ≤ c
    → (channel_of new c).gone ≡ (channel_of old c).gone

-- The same for a step that opens a channel.
abbrev pub OpenLaw : Type 0
OpenLaw =
    (displays : List ℕ) (terms : Terms) (number : ℕ) (es : List Effect) (k later : Kept) (r : Round) (t p u : Table) (changed : ℕ)
    → KeptStandsFor displays es k
    → k.delivery ≡ delivery_of t
    → k.inputs ≡ input_of t
    → Opened number ≡ reply_to es (Open terms)
    → OpensWith terms number t p
    → GoesRound (Open terms) (Opened number) r p.live k later
    → IsStepIn (scene displays es) k.touches r.mark (option_copied r.motion) r.watchers (step_at (Open terms) (Opened number) es)
    → IsGiftAt displays (Open terms) (Opened number) es r.gift
    → ((s : Scene) (e : Step)
    → IsRound s e k.touches r → AllHoldPointers s p → SendsAll changed (sent_in later.covers r s e) k.shown.origins later.queue.clock p u)
    → later.delivery ≡ delivery_of u
    → later.inputs ≡ input_of u
    → KeptStandsFor displays (step displays (Open terms) (Opened number) es) later

-- The table of channels opens a channel in this way.
abbrev pub OpensLaw : Type 0
OpensLaw =
    (terms : Terms) (number : ℕ) (old new : Table)
    → OpensChannel terms number old new → OpensWith terms number old new

-- If a channel is opened, only that channel can gain the focus, and none loses it.
abbrev pub OpenFocusLaw : Type 0
OpenFocusLaw =
    (displays : List ℕ) (es : List Effect) (k : Kept) (later : FocusState) (number gained : ℕ)
    → KeptStandsFor displays es k
    → mask_has k.delivery.live number ≡ false
    → Refocuses k.shown.windows (mask_with k.delivery.live number) k.focus later
    → IsOnlyIn gained (is_focused (focus_of later)) (is_focused (focus_of k.focus))
    → SendsFocus 0 (bit_and gained (mask_with 0 number)) (mask_with k.delivery.live number) k.focus later

-- A step that opens a channel leaves the key target, and sends it no key message.
abbrev pub OpenKeysLaw : Type 0
OpenKeysLaw =
    (displays : List ℕ) (es : List Effect) (k : Kept) (later : FocusState) (terms : Terms) (number channel : ℕ)
    → KeptStandsFor displays es k
    → Refocuses k.shown.windows (mask_with k.delivery.live number) k.focus later
    → ((t : ℕ) → target_of k.focus ≡ Some t → channel ≡ t)
    → AreKeys (target_of k.focus) (mask_with k.delivery.live number) (sent_target (Open terms) (Opened number) k later) channel []

-- The key target is live.
abbrev pub TargetLiveLaw : Type 0
TargetLiveLaw =
    (displays : List ℕ) (es : List Effect) (k : Kept) (t : ℕ)
    → KeptStandsFor displays es k → target_of k.focus ≡ Some t → mask_has k.delivery.live t ≡ true

-- The same for a step that removes a channel, which sends nobody anything.
abbrev pub RemoveLaw : Type 0
RemoveLaw =
    (displays : List ℕ) (now channel : ℕ) (es : List Effect) (k later : Kept) (t : Table)
    → KeptStandsFor displays es k
    → k.delivery ≡ delivery_of t
    → k.inputs ≡ input_of t
    → Done ≡ reply_to es (Remove now channel)
    → GoesRemoved now channel t k later
    → KeptStandsFor displays (step displays (Remove now channel) Done es) later

-- these channels, and the walls of this display
abbrev pub reach_on : (channels display : ℕ) → Reach
reach_on channels display = record { channels = channels; display = display }

-- The scene of a history has the kept windows, the channels that are able to take input, and as reach of a device the live channels
-- that are shown on its display.
abbrev pub SeesLaw : Type 0
SeesLaw =
    (displays : List ℕ) (es : List Effect) (k : Kept) (device reach : ℕ)
    → KeptStandsFor displays es k
    → ((c : ℕ) → mask_has reach c ≡ (mask_has k.delivery.live c && is_shown_on k.shown.windows (device_display displays device) c))
    → Sees (scene displays es) k.shown.windows (reach_on reach (device_display displays device)) k.delivery.able device

-- If a motion waits first, a pump is the step of this motion, with the mark that the tables of touches find and the windows that watch.
abbrev pub MotionStepLaw : Type 0
MotionStepLaw =
    (displays : List ℕ) (now : ℕ) (es : List Effect) (k : Kept) (m : Motion) (by : Mark) (watchers reach : ℕ)
    → KeptStandsFor displays es k
    → slice_get k.queue.waiting 0 ≡ Some (MotionArgs m)
    → ((c : ℕ) → mask_has reach c ≡ (mask_has k.delivery.live c && is_shown_on k.shown.windows (device_display displays m.device) c))
    → ((s : Scene) → Stands s k.touches → Sees s k.shown.windows (reach_on reach (device_display displays m.device)) k.delivery.able m.device → IsMark k.touches by (rule_mark s (Moves m)))
    → ((s : Scene)
    → Sees s k.shown.windows (reach_on reach (device_display displays m.device)) k.delivery.able m.device
    → (w : ℕ)
    → mask_has watchers w ≡ is_watching s m (changed m) w)
    → IsStepIn (scene displays es) k.touches by (Some m) watchers (step_at (Pump now) Dispatched es)

-- the step of each other call, by its mark
pub record OtherSteps (displays : List ℕ) (es : List Effect) (k : Kept) : Type 0 where
  pub resets :
      (now d watchers : ℕ) → slice_get k.queue.waiting 0 ≡ Some (Reset d)
      → IsStepIn (scene displays es) k.touches (Empty d) None watchers (step_at (Pump now) Dispatched es)
  pub keys :
      (now watchers : ℕ) (a : KeyArgs) → slice_get k.queue.waiting 0 ≡ Some (KeyOfDevice a)
      → IsStepIn (scene displays es) k.touches NoOp None watchers (step_at (Pump now) Dispatched es)
  pub repeats : (now watchers : ℕ) → IsStepIn (scene displays es) k.touches NoOp None watchers (step_at (Pump now) Repeated es)
  pub shows :
      (now watchers mask : ℕ) (next : List Window) → ((c : ℕ) → mask_has mask c ≡ (is_channel c && stays k.shown.windows next c))
      → IsStepIn (scene displays es) k.touches (Unnamed mask) None watchers (step_at (Windows now next) Done es)
  pub focuses :
      (now watchers display : ℕ) (channel : Option ℕ) (keys : Bool)
      → IsStepIn (scene displays es) k.touches NoOp None watchers (step_at (FocusOn now display channel keys) Done es)
  pub opens :
      (terms : Terms) (number watchers : ℕ) → IsStepIn (scene displays es) k.touches NoOp None watchers (step_at (Open terms) (Opened number) es)
  pub ticks :
      (now mask watchers : ℕ) → IsStepIn (scene displays es) k.touches (Mute mask) None watchers (step_at (Tick now) (Named mask) es)
  pub pilfers :
      (now c d watchers : ℕ) → IsStepIn (scene displays es) k.touches (PilferMark d c) None watchers (step_at (Pilfer now c d) Done es)
  pub removes :
      (now c watchers : ℕ) → IsStepIn (scene displays es) k.touches (Forget c) None watchers (step_at (Remove now c) Done es)

-- Each other step has a mark that the code can express.
abbrev pub OtherStepsLaw : Type 0
OtherStepsLaw = (displays : List ℕ) (es : List Effect) (k : Kept) → KeptStandsFor displays es k → OtherSteps displays es k

-- No unfinished message was delivered after the kept clock, or after any later one.
abbrev pub TimelyLaw : Type 0
TimelyLaw =
    (displays : List ℕ) (es : List Effect) (k : Kept) (c clock : ℕ)
    → KeptStandsFor displays es k
    → k.queue.clock ≤ clock
    → 1 ≤ c
    → c ≤ k.delivery.count
    → NoneAfter clock (k.delivery.channel c).unfinished

-- If the focus does not change, no channel loses or gains it.
abbrev pub SameFocusLaw : Type 0
SameFocusLaw = (focused : ℕ → Bool) → IsOnlyIn 0 focused focused
