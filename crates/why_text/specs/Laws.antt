-- Proved facts about the causes of a run. Each law is the clause of a function of its own.
use Rattle.std.specs.Prelude.{ℕ, ℤ, ◌↔◌, Bool, true, false, not, ◌==◌, ◌&&◌, ◌||◌, ◌≡◌, if◌then◌else◌, List, [], ◌∷◌, is_some, Option, Some, None}
use Rattle.std.specs.List.{list_any}
use Rattle.input_types.specs.declared.axis.Pixel.{Pixel}
use Rattle.input_types.specs.declared.motion.Motion.{Motion}
use Rattle.input_types.specs.declared.pointer.Pointer.{Pointer}
use Rattle.input_types.specs.Pointers.{IsRising}
use Rattle.window_snapshot.specs.declared.window.Window.{Window}
use Rattle.window_snapshot.specs.Blocking.{blockers}
use Rattle.window_snapshot.specs.Named.{window_of}
use Rattle.window_snapshot.specs.Occlusion.{is_blocked}
use Rattle.window_snapshot.specs.Window.{prevents_splitting}
use Rattle.window_snapshot.specs.Hits.{touched}
use Rattle.dispatch_calls.specs.declared.call.Call.{Call}
use Rattle.dispatch_calls.specs.declared.call.Call.TheVariants.{Open, Windows, FocusOn, Notify, Pump, Receive, Remove}
use Rattle.dispatch_calls.specs.declared.reply.Reply.{Reply}
use Rattle.dispatch_calls.specs.declared.reply.Reply.TheVariants.{Opened, Done, Idle}
use Rattle.routing_rules.specs.declared.choice.Choice.{Choice}
use Rattle.routing_rules.specs.declared.choice.Row.{Row}
use Rattle.routing_rules.specs.declared.choice.Row.TheVariants.{First, Unsplit, Nothing, Whole, Split}
use Rattle.routing_rules.specs.Scene.{Scene, Step, Moves}
use Rattle.routing_rules.specs.Choice.{is_holder, is_alone, choice_at}
use Rattle.routing_rules.specs.Slip.{Slip, slip}
use Rattle.routing_rules.specs.Given.{changed}
use Rattle.routing_rules.specs.Outgoing.{is_down, outgoing}
use Rattle.routing_rules.specs.Watching.{is_watching}
use Rattle.routing_rules.specs.Fits.{Fits, down_after, is_motion_of}
use Rattle.dispatch_history.specs.History.{History}
use Rattle.dispatch_history.specs.Effect.{Effect, past_of}
use Rattle.why_text.specs.Down.{down_of, targets}
use Rattle.why_text.specs.Text.{focus_words, step_text}

-- some window holds a pointer of the device, spies left out
abbrev pub has_holder : Scene → ℕ → Bool
has_holder s d = list_any (is_holder s d) s.windows

-- some such window prevents splitting
abbrev pub has_whole_holder : Scene → ℕ → Bool
has_whole_holder s d = list_any (λ v. is_holder s d v && prevents_splitting v) s.windows

-- What each row says about the scene, and what two of them say about the chosen window.
abbrev pub RowSays : Scene → ℕ → (touched chosen : Option ℕ) → Row → Type 0
RowSays s d touched chosen First = (has_holder s d ≡ false) × (chosen ≡ touched)
RowSays s d touched chosen Unsplit = (has_holder s d ≡ true) × (has_whole_holder s d ≡ true)
RowSays s d touched chosen Nothing = (has_holder s d ≡ true) × (has_whole_holder s d ≡ false) × (touched ≡ None)
RowSays s d touched chosen Whole = (has_holder s d ≡ true) × (has_whole_holder s d ≡ false) × (is_alone s d touched ≡ true)
RowSays s d touched chosen Split =
    (has_holder s d ≡ true) × (has_whole_holder s d ≡ false) × (is_some touched ≡ true) × (is_alone s d touched ≡ false) × (chosen ≡ touched)

-- The row of a choice says what holds before the step.
abbrev pub RowLaw : Type 0
RowLaw =
    (s : Scene) (d : ℕ) (at : Pixel) (k : Choice) → choice_at s d at ≡ k
    → RowSays s d (touched s.windows (s.reach d) at.x at.y) k.window k.row

-- no two of three conditions hold, and some of them does exactly if the whole does
abbrev pub Parts : (whole a b c : Bool) → Type 0
Parts whole a b c = (a && b ≡ false) × (a && c ≡ false) × (b && c ≡ false) × ((a || (b || c)) ≡ whole)

-- The windows that are given a pointer that goes down, the mute ones and the blocked ones part its targets.
abbrev pub PartsLaw : Type 0
PartsLaw =
    (s : Scene) (m : Motion) (p : Pointer) (w : ℕ)
    → Parts (targets s m p w) ((down_of s m p).given w) ((down_of s m p).mute w) ((down_of s m p).blocked w)

-- A window is blocked at a point exactly if some window blocks it there.
abbrev pub BlockersLaw : Type 0
BlockersLaw =
    (windows : List Window) (live : ℕ → Bool) (x y : ℤ) (w : ℕ) (v : Window) → window_of windows w ≡ Some v
    → (is_blocked windows live x y v ≡ true) ↔ ((c : ℕ) × (blockers windows live x y w c ≡ true))

-- the motions contain a pointer's down
abbrev pub sends_down : List Motion → Bool
sends_down ms = list_any (λ n. is_down n.action) ms

-- the window is the one to which a pointer slips
abbrev pub is_to : Option Slip → ℕ → Bool
is_to None w = false
is_to (Some way) w = way.to == w

-- the window is given the changed pointer of a motion: one that goes down, or one that slips to it
abbrev pub is_given : Scene → Motion → Option Pointer → ℕ → Bool
is_given s m None w = false
is_given s m (Some p) w = if is_down m.action then (down_of s m p).given w else is_to (slip s m) w

-- A window is sent a pointer's down exactly if it is among those that are given the pointer, or a pointer slips to it.
abbrev pub GivenLaw : Type 0
GivenLaw =
    (s : Scene) (m : Motion) (w : ℕ) (down next : List ℕ)
    → Fits s m.device down → IsRising m.pointers → down_after (Moves m) m.device down ≡ Some next
    → sends_down (outgoing s (Moves m) w m.device) ≡ is_given s m (changed m) w

-- No other step sends a down for the device, and neither does a motion of another device.
abbrev pub OthersLaw : Type 0
OthersLaw = (s : Scene) (e : Step) (w d : ℕ) → is_motion_of e d ≡ false → sends_down (outgoing s e w d) ≡ false

-- A window is sent a touch outside exactly if it watches for such touches and is not given the pointer.
abbrev pub OutsideLaw : Type 0
OutsideLaw =
    (s : Scene) (m : Motion) (p : Pointer) (w : ℕ) (down next : List ℕ)
    → Fits s m.device down → IsRising m.pointers → down_after (Moves m) m.device down ≡ Some next → changed m ≡ Some p → is_down m.action ≡ true
    → (down_of s m p).outside w ≡ (is_watching s m (Some p) w && not ((down_of s m p).given w))

-- a step that has no line of its own and changes no focus: args are handed in, a message is received, or a pump has nothing to do
abbrev pub is_silent : Call → Reply → Bool
is_silent (Notify now args) reply = true
is_silent (Receive channel) reply = true
is_silent (Pump now) Idle = true
is_silent call reply = false

-- Such a step sends nothing.
abbrev pub SilentLaw : Type 0
SilentLaw =
    (displays : List ℕ) (x : Effect) (before : List Effect) (call : Call) (reply : Reply)
    → x.past ≡ (call, reply) ∷ past_of before → is_silent call reply ≡ true → step_text displays x before ≡ []

-- a step that can change the focus of a display, or the window that keys go to: a channel is opened or removed, windows are shown, or a
-- focus is requested
abbrev pub may_move_focus : Call → Reply → Bool
may_move_focus (Open terms) (Opened k) = true
may_move_focus (Windows now ws) reply = true
may_move_focus (FocusOn now display channel keys) reply = true
may_move_focus (Remove now channel) Done = true
may_move_focus call reply = false

-- No other step sends a focus change.
abbrev pub FocusLaw : Type 0
FocusLaw = (call : Call) (reply : Reply) (h : History) → may_move_focus call reply ≡ false → focus_words h ((call, reply) ∷ h) ≡ []
