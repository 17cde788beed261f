-- Worked examples: the calls of small orders, and the lines of what a window was sent.
use Rattle.std.specs.Prelude.{◌≡◌, ℕ, true, codes, List, [], ◌∷◌, map, Result, Ok, Err, refl, Some}
use Rattle.std.specs.Fmt.{digits}
use Rattle.stream_text.specs.Spelling.{flag_words, labeled, pointer, motion as motion_text, numbered}
use Rattle.input_types.specs.declared.message.Args.TheVariants.{Motion}
use Rattle.input_types.specs.declared.motion.MotionAction.TheVariants.{Down}
use Rattle.dispatch_calls.specs.declared.call.Call.{Call}
use Rattle.dispatch_calls.specs.declared.call.Call.TheVariants as calls
use Rattle.dispatch_history.specs.Effect.{Effect}
use Rattle.dispatch_history.specs.Given.{given_calls}
use Rattle.dispatch_history.specs.Ordered.{extend}
use Rattle.dispatch_history.specs.Plan.{Plan, Cooked}
use Rattle.dispatch_history.proofs.Worked.{usual, one_display, window, at, motion}
use Rattle.schedule.specs.Lines.{lines_first}
use Rattle.stream_text.specs.declared.order_line.OrderLine.TheVariants.{Reader, Script, Pump, Tick, Receive, Finish}
use Rattle.stream_text.specs.OrderAsks.{line_of}

abbrev finger : Plan → Plan
finger plan = record plan { cooked = touched 1000000 ∷ touched 1010000 ∷ [] }
  where
    touched : ℕ → Cooked
    touched t = record { moment = t; args = Motion (motion Down 0 (at 0 100 200 ∷ [])) }

-- two lanes, the first of which has two steps
abbrev two_lanes : Plan
two_lanes =
    record {
      displays = one_display;
      channels = record { terms = usual; finishes = true; finish_after = 70 } ∷ [];
      steps =
          record { lane = 1; call = calls.FocusOn 5 0 (Some 1) true } ∷ record { lane = 2; call = calls.Remove 7 1 }
          ∷ record { lane = 1; call = calls.Pilfer 9 1 1 } ∷ [];
      cooked = [];
      until = 0;
    }

-- each line makes its call: a step has its moment, wherever it stands, and a pump, a tick and a finish have moment 0
each_line_makes_its_call :
    given_calls two_lanes (map line_of (Script 2 ∷ Tick ∷ Script 1 ∷ Receive 1 ∷ Script 1 ∷ Finish 1 3 ∷ Pump ∷ Receive 9 ∷ []))
    ≡ Ok (calls.Open usual ∷ calls.Remove 7 1 ∷ calls.Tick 0 ∷ calls.FocusOn 5 0 (Some 1) true ∷ calls.Receive 1 ∷ calls.Pilfer 9 1 1
    ∷ calls.Finish 0 1 3 ∷ calls.Pump 0 ∷ calls.Receive 9 ∷ [])
each_line_makes_its_call = refl

-- a plan need not be used up
no_lines_open_the_channels : given_calls two_lanes (map line_of []) ≡ Ok (calls.Open usual ∷ [])
no_lines_open_the_channels = refl

-- lane 2 has one step, and lane 3 has none
a_lane_has_no_step_left : given_calls two_lanes (map line_of (Script 2 ∷ Pump ∷ Script 2 ∷ Script 3 ∷ [])) ≡ Err 2
a_lane_has_no_step_left = refl

a_lane_has_no_steps : given_calls two_lanes (map line_of (Script 3 ∷ [])) ≡ Err 0
a_lane_has_no_steps = refl

-- of two args the third is missing
no_args_are_left : given_calls (finger two_lanes) (map line_of (Reader ∷ Pump ∷ Reader ∷ Reader ∷ Pump ∷ [])) ≡ Err 3
no_args_are_left = refl

-- a window, and a finger on it
abbrev one_window : Plan
one_window =
    finger
    (record {
      displays = one_display;
      channels = record { terms = usual; finishes = true; finish_after = 0 } ∷ [];
      steps = record { lane = 1; call = calls.Windows 0 (window 1 0 0 0 1080 2400 ∷ []) } ∷ [];
      cooked = [];
      until = 0;
    })

abbrev effects : Result (List Call) ℕ → List Effect
effects (Ok cs) = extend one_display [] cs
effects (Err n) = []

what_its_owner_received :
    lines_first (effects (given_calls one_window (map line_of (Script 1 ∷ Reader ∷ Pump ∷ Receive 1 ∷ Receive 1 ∷ Finish 1 1 ∷ [])))) 1 1
    ≡ codes "1 1000000 motion 1 DOWN 0@100,200\n"
unfolding flag_words labeled pointer motion_text numbered digits
what_its_owner_received = refl

-- a message that is not received has a line as soon as it is sent
what_it_did_not_receive : lines_first (effects (given_calls one_window (map line_of (Script 1 ∷ Reader ∷ Pump ∷ [])))) 1 1 ≡ codes "1 1000000 motion 1 DOWN 0@100,200\n"
unfolding flag_words labeled pointer motion_text numbered digits
what_it_did_not_receive = refl

-- and no line before
what_it_was_not_sent : lines_first (effects (given_calls one_window (map line_of (Script 1 ∷ Reader ∷ [])))) 1 1 ≡ []
what_it_was_not_sent = refl
