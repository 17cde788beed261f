use Rattle.std.proofs.Common.{◌≡◌, drop}
use Rattle.schedule.specs.Ends.{last_step}
use Rattle.schedule.proofs.run.last_step.Given as goal

-- the latest so far, with the steps that are left
abbrev pub invariant-loop-step : goal.invariant-loop-step
invariant-loop-step l = last_step l.last (drop l.step-index l.steps) ≡ last_step 0 l.steps
