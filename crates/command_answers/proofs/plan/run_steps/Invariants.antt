use Rattle.std.proofs.Common.{◌≡◌, map}
use Rattle.std.specs.List.{All}
use Rattle.schedule.specs.Planned.{IsStep, step_of as run_step}
use Rattle.replay_actors.specs.Session.{step_of}
use Rattle.command_answers.proofs.plan.run_steps.Given as goal

-- the steps so far
abbrev pub invariant-loop-step : goal.invariant-loop-step
invariant-loop-step l = record {
  value : map run_step l.all.items ≡ map step_of l.yielded;
  valid : All IsStep l.all.items;
}
