use Rattle.std.proofs.Common.{◌≡◌, ◌-◌, length}
use Rattle.given_run.specs.Lanes.{calls_from}
use Rattle.given_run.proofs.lanes.next_place.Given as goal

-- no step of the lane was skipped
abbrev pub invariant-steps : goal.invariant-steps
invariant-steps l = calls_from l.steps l.lane l.at ≡ calls_from l.steps l.lane l.from

abbrev pub decreases-steps : goal.decreases-steps
decreases-steps l = length l.steps - l.at
