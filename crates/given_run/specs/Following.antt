-- How far a given order was followed, and what it came to.
use Rattle.std.specs.Prelude.{◌≡◌, ℕ, ◌+◌, ◌≤◌, Bool, true, false, List, drop, length, reverse, Some, None, Result, Ok, Err}
use Rattle.dispatch_calls.specs.declared.call.Call.{Call}
use Rattle.dispatch_history.specs.Effect.{Effect, past_of}
use Rattle.dispatch_history.specs.Given.{given_calls, call_of, args_after, steps_after}
use Rattle.dispatch_history.specs.History.{opened}
use Rattle.dispatch_history.specs.Legal.{answered, run}
use Rattle.dispatch_history.specs.Ordered.{scripted}
use Rattle.dispatch_history.specs.Plan.{Plan, Cooked, ScriptStep, Line}
use Rattle.schedule.specs.State.{ScheduleState, Has}
use Rattle.given_run.specs.declared.fault.Fault.{Fault}
use Rattle.given_run.specs.declared.fault.Fault.TheVariants.{NoStep, Memory}
use Rattle.given_run.specs.Lanes.{IsLeft}
use Rattle.given_run.specs.State.{GivenState}

-- After n lines of an order a run stands for these effects, and these args and steps are left.
pub record Comes (plan : Plan) (n : ℕ) (es : List Effect) (cs : List Cooked) (ss : List ScriptStep) (s : GivenState) : Type 0 where
  pub has : Has plan es s.run
  pub few : scripted (past_of es) ≤ n
  pub opened_is : opened (past_of es) ≡ length plan.channels
  pub args_are : cs ≡ drop s.taken plan.cooked
  pub steps_are : IsLeft plan.steps ss s.lanes

-- The call of a line was made, or it has none.
abbrev pub Makes : Plan → Line → ℕ → List Effect → List Cooked → List ScriptStep → GivenState → Bool → Type 0
Makes plan line n es cs ss s true =
    (call : Call) × (call_of line cs ss ≡ Some call)
    × Comes plan (n + 1) (answered plan.displays call es) (args_after line cs) (steps_after line ss) s
Makes plan line n es cs ss s false = call_of line cs ss ≡ None

-- The result of following an order: a run that stands for the effects of the replay of the given order, or the number
-- of lines before the first whose step does not exist, unless memory ran out.
abbrev pub Follows : Plan → List Line → Result ScheduleState Fault → Type 0
Follows plan lines (Ok s) =
    (calls : List Call) × (given_calls plan lines ≡ Ok calls)
    × Has plan (run plan.displays (reverse calls)) s
    × (opened (past_of (run plan.displays (reverse calls))) ≡ length plan.channels)
Follows plan lines (Err (NoStep before)) = given_calls plan lines ≡ Err before
Follows plan lines (Err Memory) = Unit {0}
