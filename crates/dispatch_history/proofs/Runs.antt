-- Worked examples: whole runs of a plan, in the order of its moments and in a given order.
use Rattle.std.specs.Prelude.{ℕ, ◌≡◌, Bool, true, false, List, [], ◌∷◌, reverse, length, Some, None, Ok, Err, Result, refl}
use Rattle.input_types.specs.declared.message.Args.TheVariants.{Motion as MotionArgs, Key as KeyOfDevice}
use Rattle.input_types.specs.declared.message.Message.{Message}
use Rattle.input_types.specs.declared.motion.MotionAction.{MotionAction}
use Rattle.input_types.specs.declared.motion.MotionAction.TheVariants.{Down, Up, Move, Cancel, PointerDown, PointerUp}
use Rattle.input_types.specs.declared.pointer.Pointer.{Pointer}
use Rattle.dispatch_calls.specs.declared.call.Call.{Call}
use Rattle.dispatch_calls.specs.declared.call.Call.TheVariants.{Windows, FocusOn}
use Rattle.dispatch_history.specs.Effect.{Effect, stream, past_of}
use Rattle.dispatch_history.specs.History.{received, finished}
use Rattle.dispatch_history.specs.Due.{anrs, counts}
use Rattle.dispatch_history.specs.Plan.{Plan, ChannelOf, ScriptStep, Cooked, Line, ReaderLine, ScriptLine, PumpLine, ReceiveLine, FinishLine}
use Rattle.dispatch_history.specs.Given.{given_calls}
use Rattle.dispatch_history.specs.Ordered.{ordered, chosen, extend}
use Rattle.dispatch_history.proofs.Worked.{usual, one_display, window, at, motion, key, focused, keyed, says}

-- a channel with the defaults of a session, and one that never finishes
abbrev by_default : ChannelOf
by_default = record { terms = usual; finishes = true; finish_after = 0 }

abbrev never_finishes : ChannelOf
never_finishes = record { terms = usual; finishes = false; finish_after = 0 }

abbrev scripted : Call → ScriptStep
scripted call = record { lane = 1; call = call }

abbrev cooked : ℕ → MotionAction → ℕ → List Pointer → Cooked
cooked now action index ps = record { moment = now; args = MotionArgs (motion action index ps) }

abbrev pressed : ℕ → ℕ → ℕ → Bool → Cooked
pressed now scan code down = record { moment = now; args = KeyOfDevice (key scan code down) }

abbrev in_order : List Effect → ℕ → List Message
in_order es c = reverse (stream es c)

-- A window disappears and comes back while a finger is on it.
abbrev windows_go : Plan
windows_go =
    record {
      displays = one_display;
      channels = by_default ∷ [];
      steps =
          scripted (Windows 0 (window 1 0 0 0 1080 2400 ∷ [])) ∷ scripted (Windows 1100000 [])
          ∷ scripted (Windows 1200000 (window 1 0 0 0 1080 2400 ∷ [])) ∷ [];
      cooked =
          cooked 1000000 Down 0 (at 0 540 1200 ∷ []) ∷ cooked 1300000 Move 0 (at 0 540 1200 ∷ []) ∷ cooked 1400000 Up 0 (at 0 540 1200 ∷ [])
          ∷ cooked 1500000 Down 0 (at 0 540 1200 ∷ []) ∷ [];
      until = 0;
    }

a_run_with_windows_that_go :
    in_order (ordered 20 windows_go) 1
    ≡ says 1 1000000 (motion Down 0 (at 0 540 1200 ∷ [])) ∷ says 2 1100000 (motion Cancel 0 (at 0 540 1200 ∷ []))
    ∷ says 3 1500000 (motion Down 0 (at 0 540 1200 ∷ [])) ∷ []
a_run_with_windows_that_go = refl

it_has_at_most_twenty_rounds : chosen windows_go (ordered 20 windows_go) ≡ None
it_has_at_most_twenty_rounds = refl

-- The focus moves while a key is down.
abbrev focus_moves : Plan
focus_moves =
    record {
      displays = one_display;
      channels = by_default ∷ by_default ∷ [];
      steps =
          scripted (Windows 0 (window 1 0 0 0 540 2400 ∷ window 2 0 540 0 1080 2400 ∷ [])) ∷ scripted (FocusOn 0 0 (Some 1) true)
          ∷ scripted (FocusOn 1200000 0 (Some 2) true) ∷ [];
      cooked = pressed 1000000 115 24 true ∷ pressed 1300000 115 24 false ∷ pressed 1400000 999 0 true ∷ [];
      until = 0;
    }

a_run_with_a_key_held_while_the_focus_moves :
    in_order (ordered 20 focus_moves) 1
    ≡ focused 1 0 true ∷ keyed 2 1000000 (key 115 24 true) 0 0 ∷ keyed 3 1200000 (key 115 24 false) 0x20 0 ∷ focused 4 1200000 false ∷ []
a_run_with_a_key_held_while_the_focus_moves = refl

and_the_window_that_gains_it : in_order (ordered 20 focus_moves) 2 ≡ focused 1 1200000 true ∷ keyed 2 1400000 (key 999 0 true) 0 0 ∷ []
and_the_window_that_gains_it = refl

-- A window never finishes: a tick reports it.
abbrev unresponsive : Plan
unresponsive =
    record {
      displays = one_display;
      channels = never_finishes ∷ [];
      steps = scripted (Windows 0 (window 1 0 0 0 1080 2400 ∷ [])) ∷ [];
      cooked = cooked 1000000 Down 0 (at 0 540 1200 ∷ []) ∷ [];
      until = 7000000;
    }

a_run_with_a_window_that_never_finishes :
    in_order (ordered 9 unresponsive) 1
    ≡ says 1 1000000 (motion Down 0 (at 0 540 1200 ∷ [])) ∷ says 2 6000000 (motion Cancel 0 (at 0 540 1200 ∷ [])) ∷ []
a_run_with_a_window_that_never_finishes = refl

it_receives_both_and_finishes_none :
    counts (ordered 9 unresponsive) 1 ≡ Some (record { sent = 2; received = 2; finished = 0; published = 2; live = true })
it_receives_both_and_finishes_none = refl

it_is_named_once : anrs (ordered 9 unresponsive) ≡ record { clock = 6000000; channel = 1; seq = 1 } ∷ []
it_is_named_once = refl

nothing_is_left : chosen unresponsive (ordered 9 unresponsive) ≡ None
nothing_is_left = refl

-- Two fingers over two windows, and an order of eight lines.
abbrev over_two : Plan
over_two =
    record {
      displays = one_display;
      channels = by_default ∷ by_default ∷ [];
      steps = scripted (Windows 0 (window 1 0 0 0 540 2400 ∷ window 2 0 540 0 1080 2400 ∷ [])) ∷ [];
      cooked =
          cooked 1000000 Down 0 (at 0 100 200 ∷ []) ∷ cooked 1010000 PointerDown 1 (at 0 100 200 ∷ at 1 700 400 ∷ [])
          ∷ cooked 1020000 PointerUp 0 (at 0 100 200 ∷ at 1 700 400 ∷ []) ∷ [];
      until = 0;
    }

abbrev eight_lines : List Line
eight_lines =
    ScriptLine 1 ∷ ReaderLine ∷ PumpLine ∷ ReaderLine ∷ PumpLine ∷ ReceiveLine 1 ∷ ReceiveLine 2 ∷ FinishLine 1 1 ∷ []

-- the effects of a given run, where each of its steps exists
abbrev followed : Result (List Call) ℕ → List Effect
followed (Ok calls) = extend one_display [] calls
followed (Err n) = []

a_given_order_of_two_windows :
    in_order (followed (given_calls over_two eight_lines)) 1
    ≡ says 1 1000000 (motion Down 0 (at 0 100 200 ∷ [])) ∷ says 2 1010000 (motion Move 0 (at 0 100 200 ∷ [])) ∷ []
a_given_order_of_two_windows = refl

its_right_window : in_order (followed (given_calls over_two eight_lines)) 2 ≡ says 1 1010000 (motion Down 0 (at 1 160 400 ∷ [])) ∷ []
its_right_window = refl

what_was_received_and_finished :
    (let h = past_of (followed (given_calls over_two eight_lines)) in received h 1 ∷ received h 2 ∷ length (finished h 1) ∷ length (finished h 2) ∷ [])
    ≡ 1 ∷ 1 ∷ 1 ∷ 0 ∷ []
what_was_received_and_finished = refl

-- there are no args left for the fourth of four reader lines
a_line_without_a_step : given_calls over_two (ReaderLine ∷ ReaderLine ∷ ReaderLine ∷ ReaderLine ∷ []) ≡ Err 3
a_line_without_a_step = refl
