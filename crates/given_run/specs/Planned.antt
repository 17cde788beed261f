-- What a run is given, as the history's definitions see it.
use Rattle.std.specs.Prelude.{List, map}
use Rattle.dispatch_history.specs.Plan as history
use Rattle.schedule.specs.declared.plan.Plan.{Plan}
use Rattle.schedule.specs.Planned.{plan_of}
use Rattle.schedule.specs.Run.{with_cooked}
use Rattle.given_run.specs.declared.cooked.Cooked.{Cooked}

-- args with their moment
abbrev pub cooked_of : Cooked → history.Cooked
cooked_of c = record { moment = c.moment; args = c.args }

-- a plan with these args
abbrev pub whole_plan : Plan → List Cooked → history.Plan
whole_plan plan cooked = with_cooked (plan_of plan) (map cooked_of cooked)
