-- Proved facts about what is kept of the focus, of keys and of repeats. Each law is the clause of a function of its
-- own.
use Rattle.std.specs.Prelude.{◌≡◌, ◌<◌, ℕ, true, false, List, [], ◌∷◌, ◌++◌, map, Option, Some, None, Bool, ◌&&◌, replicate}
use Rattle.window_snapshot.specs.Mask.{mask_has}
use Rattle.window_snapshot.specs.Named.{is_focusable_on}
use Rattle.focus_resolver.specs.Resolver.{FocusState, after_request, may_by, focus_of, target_of, is_focused}
use Rattle.focus_resolver.specs.Changes.{IsOnlyIn}
use Rattle.dispatch_calls.specs.declared.call.Call.{Call}
use Rattle.dispatch_calls.specs.declared.call.Call.TheVariants.{FocusOn}
use Rattle.dispatch_calls.specs.declared.reply.Reply.{Reply}
use Rattle.dispatch_history.specs.History.{History, live, clock, origin, repeats_of, snapshot}
use Rattle.dispatch_history.specs.Focus.{focus, has_focus, is_target, key_target, focus_sent}
use Rattle.dispatch_history.specs.Effect.{Effect, past_of}
use Rattle.dispatch_history.specs.Effects.{step, said_at}
use Rattle.dispatch_history.specs.Step.{scene, step_of, marks}
use Rattle.dispatch_history.specs.Said.{motions_said}
use Rattle.routing_rules.specs.Given.{mark}
use Rattle.routing_rules.specs.Marks.{covered}
use Rattle.dispatch_history.specs.Delivery.{able}
use Rattle.dispatch_history.specs.Keys.{keys}
use Rattle.dispatcher.specs.DispatchTables.Lawful.{Lawful}
use Rattle.dispatcher.specs.KeyTables.Held.{Rising, KeysAre, bodies_tracked, key_messages, target_sent}
use Rattle.dispatcher.specs.KeyTables.Repeats.{RepeatIs, repeat_next}
use Rattle.key_repeat.specs.Due.{Sent, due_by}
use Rattle.input_types.specs.declared.key.KeyMsg.{KeyMsg}
use Rattle.input_types.specs.declared.motion.Motion.{Motion}
use Rattle.input_types.specs.declared.message.Body.TheVariants.{Motion as MotionBody, Key}
use Rattle.dispatcher.specs.CancelSynthesis.Laws.{keys_sent as tracked}
use Rattle.dispatch_history.specs.Queue.{inbound, args_of}
use Rattle.dispatch_history.specs.KeySent.{repeat_due}
use Rattle.dispatcher.specs.KeyTables.Focused.{FocusIs, MasksAre, is_request, leaves_focus, change_of, change_sent}

-- What is kept of the focus says which channel has the focus of each display, which channels are focused, and where keys
-- go.
abbrev pub FocusRead : Type 0
FocusRead =
    (es : List Effect) (f : FocusState)
    → FocusIs es f
    → ((y : ℕ) → y < 4 → focus_of f y ≡ focus (past_of es) y)
    × ((w : ℕ) → is_focused (focus_of f) w ≡ has_focus (past_of es) w)
    × (target_of f ≡ key_target (past_of es))

-- A request sets the channel requested for its display, and takes keys there if it says so.
abbrev pub FocusRequested : Type 0
FocusRequested =
    (displays : List ℕ) (now display : ℕ) (channel : Option ℕ) (keys : Bool) (answer : Reply) (es : List Effect) (f : FocusState)
    → display < 4
    → FocusIs es f
    → FocusIs (step displays (FocusOn now display channel keys) answer es)
    (after_request display channel keys f)

-- Any other step changes at most the channels that may have the focus.
abbrev pub FocusShown : Type 0
FocusShown =
    (displays : List ℕ) (call : Call) (answer : Reply) (es : List Effect) (f : FocusState) (masks : List ℕ)
    → is_request call ≡ false
    → MasksAre masks (past_of (step displays call answer es))
    → FocusIs es f
    → FocusIs (step displays call answer es) (record { requested = f.requested; last = f.last; focusable = masks })

-- A step that is no snapshot, and neither opens nor removes a channel, leaves these as they are, too.
abbrev pub FocusLeft : Type 0
FocusLeft =
    (displays : List ℕ) (call : Call) (answer : Reply) (es : List Effect) (f : FocusState)
    → leaves_focus call ≡ true
    → FocusIs es f
    → FocusIs (step displays call answer es) f

-- The masks of the channels that may have the focus follow from the windows and the live channels.
abbrev pub FocusMasks : Type 0
FocusMasks =
    (h : History) (masks : List ℕ) (alive : ℕ)
    → ((c : ℕ) → mask_has alive c ≡ live h c)
    → ((y c : ℕ) → y < 4 → may_by masks y c ≡ (mask_has alive c && is_focusable_on (snapshot h) y c))
    → MasksAre masks h

-- At first nothing was requested, and no channel may have the focus.
abbrev pub FocusAtFirst : Type 0
FocusAtFirst = FocusIs [] (record { requested = replicate 4 None; last = 0; focusable = replicate 4 0 })

-- The masks of a focus change say what each channel is sent about it.
abbrev pub FocusSent : Type 0
FocusSent =
    (es fs : List Effect) (f g : FocusState) (lost gained w : ℕ)
    → FocusIs es f
    → FocusIs fs g
    → IsOnlyIn lost (is_focused (focus_of f)) (is_focused (focus_of g))
    → IsOnlyIn gained (is_focused (focus_of g)) (is_focused (focus_of f))
    → focus_sent (has_focus (past_of es) w) (has_focus (past_of fs) w) ≡ change_sent (change_of lost gained w)

-- Only the key target holds keys, and only while it is able.
abbrev pub KeysOfTarget : Type 0
KeysOfTarget =
    (displays : List ℕ) (es : List Effect) (w : ℕ)
    → Lawful displays es → (is_target (past_of es) w && able es w) ≡ false → keys es w ≡ []

-- The keys that a window holds are in rising order, each once.
abbrev pub KeysRise : Type 0
KeysRise = (displays : List ℕ) (es : List Effect) (w : ℕ) → Lawful displays es → Rising (keys es w)

-- A channel that is not live holds no key, so a newly opened channel has no keys.
abbrev pub KeysAtFirst : Type 0
KeysAtFirst =
    (displays : List ℕ) (es : List Effect) (w : ℕ) → Lawful displays es → live (past_of es) w ≡ false → KeysAre es w []

-- Only the key messages among what a window is sent change what is kept of its keys.
abbrev pub BodiesTracked : Type 0
BodiesTracked =
    (ms : List Motion) (ks : List KeyMsg) (a b : Bool) (held : List KeyMsg)
    → bodies_tracked (map MotionBody ms ++ map Key ks ++ focus_sent a b) held ≡ tracked ks held

-- Once the key messages that a step sends are tracked, the keys of a channel that is live after it are kept.
abbrev pub KeysStep : Type 0
KeysStep =
    (displays : List ℕ) (call : Call) (answer : Reply) (es : List Effect) (w : ℕ) (held : List KeyMsg)
    → Lawful displays (step displays call answer es)
    → live (past_of (step displays call answer es)) w ≡ true
    → KeysAre es w held
    → KeysAre (step displays call answer es) w (tracked (key_messages call answer es w) held)

-- A step sends to a channel that is live after it motions, then these key messages, and then a change of its focus.
abbrev pub SaidParts : Type 0
SaidParts =
    (displays : List ℕ) (call : Call) (answer : Reply) (es : List Effect) (w : ℕ)
    → live (past_of (step displays call answer es)) w ≡ true
    → let moment = scene displays es in
    let this = step_of (snapshot (past_of es)) call answer (args_of call answer (inbound (past_of es))) in
    said_at displays call answer es w
    ≡ motions_said moment this (mark moment this) (covered (mark moment this ∷ marks es) w) (origin (past_of es) w) w
    ++ map Key (key_messages call answer es w)
    ++ focus_sent (has_focus (past_of es) w) (has_focus (past_of (step displays call answer es)) w)

-- A step sends key messages only to the key target before it.
abbrev pub KeysQuiet : Type 0
KeysQuiet =
    (displays : List ℕ) (call : Call) (answer : Reply) (es : List Effect) (w : ℕ)
    → Lawful displays (step displays call answer es)
    → is_target (past_of es) w ≡ false
    → key_messages call answer es w ≡ []

-- What it sends to the key target follows from what is kept.
abbrev pub TargetSent : Type 0
TargetSent =
    (displays : List ℕ) (call : Call) (answer : Reply) (es : List Effect)
    (w : ℕ) (held : List KeyMsg) (last : Option Sent)
    → Lawful displays (step displays call answer es)
    → is_target (past_of es) w ≡ true
    → live (past_of (step displays call answer es)) w ≡ true
    → KeysAre es w held
    → RepeatIs es last
    → key_messages call answer es w
    ≡ target_sent call answer (args_of call answer (inbound (past_of es))) w (able es w)
    (is_target (past_of (step displays call answer es)) w) held last

-- What is kept of the last key message says when a repeat is due, and belongs to the key target.
abbrev pub RepeatRead : Type 0
RepeatRead =
    (displays : List ℕ) (es : List Effect) (last : Option Sent)
    → Lawful displays es
    → RepeatIs es last
    → (due_by (repeats_of (past_of es)) last ≡ repeat_due es) × ((s : Sent) → last ≡ Some s → is_target (past_of es) s.channel ≡ true)

-- After the key messages that the key target is sent, the last one is kept.
abbrev pub RepeatStep : Type 0
RepeatStep =
    (displays : List ℕ) (call : Call) (answer : Reply) (es : List Effect) (t : ℕ) (last : Option Sent)
    → Lawful displays (step displays call answer es)
    → is_target (past_of es) t ≡ true
    → RepeatIs es last
    → RepeatIs (step displays call answer es)
    (repeat_next (live (past_of (step displays call answer es)) t) (clock (past_of (step displays call answer es))) t
    (key_messages call answer es t) last)

-- If there is no key target, a step does not change it.
abbrev pub RepeatLeft : Type 0
RepeatLeft =
    (displays : List ℕ) (call : Call) (answer : Reply) (es : List Effect) (last : Option Sent)
    → Lawful displays (step displays call answer es)
    → key_target (past_of es) ≡ None
    → RepeatIs es last
    → RepeatIs (step displays call answer es) last
