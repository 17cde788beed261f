-- Proved facts about the lines of a step. Each law is the clause of a function of its own.
use Rattle.std.specs.Prelude.{◌≡◌, ◌≤◌, ℕ, Bool, max, true, false, not, ◌&&◌, List, ◌∷◌, flat_map, slice_get, Option, Some}
use Rattle.std.specs.List.{list_any}
use Rattle.input_types.specs.declared.message.Args.{Args}
use Rattle.input_types.specs.declared.message.Args.TheVariants.{Motion as MotionArgs}
use Rattle.input_types.specs.declared.message.Body.{Body}
use Rattle.input_types.specs.declared.message.Body.TheVariants.{Motion as MotionBody}
use Rattle.input_types.specs.declared.motion.Motion.{Motion}
use Rattle.dispatch_calls.specs.Moments.{moment_of}
use Rattle.dispatch_calls.specs.declared.call.Call.{Call}
use Rattle.dispatch_calls.specs.declared.call.Call.TheVariants.{Finish, Pump}
use Rattle.dispatch_calls.specs.declared.reply.Reply.{Reply}
use Rattle.dispatch_calls.specs.declared.reply.Reply.TheVariants.{Dispatched}
use Rattle.routing_rules.specs.Given.{changed}
use Rattle.routing_rules.specs.Outgoing.{is_down}
use Rattle.dispatch_history.specs.Delivery.{able}
use Rattle.dispatch_history.specs.Effect.{Effect, past_of}
use Rattle.dispatch_history.specs.Effects.{effect_of, said_at, step}
use Rattle.dispatch_history.specs.History.{clock, live}
use Rattle.dispatch_history.specs.Queue.{args_of, inbound}
use Rattle.dispatch_history.specs.PointerOf.{AllRise}
use Rattle.dispatch_history.specs.Step.{scene}
use Rattle.dispatcher.specs.DispatchTables.Lawful.{Lawful}
use Rattle.why_text.specs.Laws.{is_given, may_move_focus}
use Rattle.why_text.specs.Lines.{call_words, down_words}
use Rattle.why_text.specs.Text.{line, step_text}
use Rattle.why_lines.specs.Owners.{again_words}
use Rattle.input_types.specs.declared.pointer.Pointer.{Pointer}
use Rattle.why_text.specs.Down.{Down}
use Rattle.why_lines.specs.declared.lines.downs.Causes.{Causes}
use Rattle.why_lines.specs.Causes.{AreCauses, down_with}

-- A finish writes that its channel responds again exactly if the channel is able after it and was not before it.
abbrev pub FinishLaw : Type 0
FinishLaw =
    (displays : List ℕ) (es : List Effect) (now c seq : ℕ) (answer : Reply)
    → Lawful displays (step displays (Finish now c seq) answer es)
    → (let x = effect_of displays (Finish now c seq) answer (args_of (Finish now c seq) answer (inbound (past_of es))) es in
    call_words displays (Finish now c seq) answer x es ≡ again_words (not (able es c) && able (x ∷ es) c) c)

-- The text of a step that cannot move the focus is that of the lines of its call, each with the clock after the step in front.
abbrev pub StillLaw : Type 0
StillLaw =
    (displays : List ℕ) (call : Call) (reply : Reply) (es : List Effect) (x : Effect)
    → x.past ≡ (call, reply) ∷ past_of es → may_move_focus call reply ≡ false
    → step_text displays x es ≡ flat_map (line (max (moment_of call) (clock (past_of es)))) (call_words displays call reply x es)

-- a message says that a pointer goes down: it is a Down or a PointerDown
abbrev pub says_down : Body → Bool
says_down (MotionBody m) = is_down m.action
says_down body = false

-- the args are a motion
abbrev pub is_motion : Option Args → Bool
is_motion (Some (MotionArgs m)) = true
is_motion args = false

-- The stream of a live window gets a Down or a PointerDown from a pump that dispatches a motion exactly if the window is given a pointer
-- that goes down, or a pointer slips to it.
abbrev pub DownLaw : Type 0
DownLaw =
    (displays : List ℕ) (es : List Effect) (now : ℕ) (m : Motion) (w : ℕ)
    → Lawful displays es → AllRise (past_of es) → slice_get (inbound (past_of es)) 0 ≡ Some (MotionArgs m)
    → 1 ≤ m.device → m.device ≤ 8 → live (past_of es) w ≡ true
    → list_any says_down (said_at displays (Pump now) Dispatched es w) ≡ is_given (scene displays es) m (changed m) w

-- No other step puts one on a stream.
abbrev pub NoDownLaw : Type 0
NoDownLaw =
    (displays : List ℕ) (call : Call) (answer : Reply) (es : List Effect) (w : ℕ)
    → is_motion (args_of call answer (inbound (past_of es))) ≡ false
    → list_any says_down (said_at displays call answer es w) ≡ false

-- The line of a pointer that goes down is the same.
abbrev pub WordsLaw : Type 0
WordsLaw = (d : ℕ) (p : Pointer) (c : Causes) (k : Down) → AreCauses c k → down_words d p (down_with c) ≡ down_words d p k
