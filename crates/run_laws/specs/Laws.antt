-- Proved facts about the runs of a plan. Each law is the clause of a function of its own.
use Rattle.std.specs.Prelude.{◌≡◌, ℕ, List, map, reverse, is_some, IsTrue, Ok}
use Rattle.input_types.specs.declared.message.Args.{Args}
use Rattle.input_types.specs.DeviceRule.{device_state}
use Rattle.dispatch_calls.specs.declared.call.Call.{Call}
use Rattle.dispatch_history.specs.Effect.{Effect, past_of}
use Rattle.dispatch_history.specs.Given.{given_calls}
use Rattle.dispatch_history.specs.Legal.{replay}
use Rattle.dispatch_history.specs.Ordered.{Rounds, Ordered}
use Rattle.dispatch_history.specs.Plan.{Plan, Line}
use Rattle.schedule.specs.declared.plan.Plan.{Plan as RunPlan}
use Rattle.schedule.specs.Planned.{IsRun, plan_of}
use Rattle.schedule.specs.Run.{IsWithin, IsTooLong}
use Rattle.run_laws.specs.Fitting.{KeepRule, HandNone, NoneRefused, handed}

-- If the args of a plan keep the rule of each device, none of them is refused in the ordered run, however far that
-- has come.
abbrev pub OrderedTakes : Type 0
OrderedTakes = (plan : Plan) (es : List Effect) → KeepRule plan.cooked → HandNone plan.steps → Rounds plan es → NoneRefused (past_of es)

-- Nor is one in the run of a given order.
abbrev pub GivenTakes : Type 0
GivenTakes =
    (plan : Plan) (lines : List Line) (calls : List Call)
    → KeepRule plan.cooked → HandNone plan.steps → given_calls plan lines ≡ Ok calls → NoneRefused (replay plan.displays (reverse calls))

-- Args that keep the rule of each device as a list whose newest come first keep it as they are handed in.
abbrev pub HandedKeep : Type 0
HandedKeep = (gs : List (ℕ × Args)) → ((d : ℕ) → IsTrue (is_some (device_state d (map (λ (g : ℕ × Args). g.1) gs)))) → KeepRule (handed gs)

-- The steps that scripts can make hand in no args.
abbrev pub StepsHandNone : Type 0
StepsHandNone = (plan : RunPlan) → IsRun plan → HandNone (plan_of plan).steps

-- A plan whose ordered run is within the limits has no rounds that are too long: it is one or the other, never both.
abbrev pub OneOutcome : Type 0
OneOutcome = (plan : Plan) (es fs : List Effect) → Ordered plan es → IsWithin es → Rounds plan fs → IsTooLong fs → ⊥
