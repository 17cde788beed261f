-- The plan of a run.
use Rattle.std.specs.Prelude.{◌≡◌, ◌≤◌, length, map}
use Rattle.session_plan.specs.Plan.{PlanData}
use Rattle.session_plan.specs.View.{channel_view}
use Rattle.schedule.specs.Planned.{IsRun, plan_of}
use Rattle.command_answers.specs.declared.plan.Planned.{Planned}
use Rattle.command_files.specs.Planned.{script_of}

-- it is the plan of this session's run, with the session's channels
pub record IsPlanned (plan : PlanData) (p : Planned) : Type 0 where
  pub run : IsRun p.plan
  pub few : length p.channels.items ≤ 64
  pub channels : map channel_view p.channels.items ≡ plan.channels
  pub script : plan_of p.plan ≡ script_of plan
