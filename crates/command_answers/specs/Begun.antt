-- A run that has begun.
use Rattle.std.specs.Prelude.{◌≡◌, ◌≤◌, length, map, []}
use Rattle.session_plan.specs.Plan.{PlanData}
use Rattle.session_plan.specs.View.{channel_view}
use Rattle.schedule.specs.Planned.{IsRun, plan_of}
use Rattle.command_answers.specs.declared.running.Begun.{Begun}
use Rattle.schedule.specs.declared.keeping.Lines.{Lines}
use Rattle.command_files.specs.Planned.{script_of}
use Rattle.command_files.specs.Recorded.{HasRead}

-- It is the run of this session, of whose recording nothing was read, with these lines.
pub record BeginsWith (how : Lines) (plan : PlanData) (b : Begun) : Type 0 where
  pub run : IsRun b.plan
  pub few : length b.channels.items ≤ 64
  pub channels : map channel_view b.channels.items ≡ plan.channels
  pub script : plan_of b.plan ≡ script_of plan
  pub taken : HasRead how plan [] b.recording
