use Rattle.std.proofs.Common.{◌≡◌, ◌+◌, ◌-◌, ◌≤◌, drop, length}
use Rattle.motion_batch.specs.Rule.{count_due}
use Rattle.motion_batch.proofs.pending.Pending.count_due.Given as goal

-- those counted, and those that are due of the others, are all
abbrev pub invariant-loop-count : goal.invariant-loop-count
invariant-loop-count l = record {
  within : l.count ≤ length l.self;
  rest : l.count + count_due l.at (drop l.count l.self) ≡ count_due l.at l.self;
}

abbrev pub decreases-loop-count : goal.decreases-loop-count
decreases-loop-count l = length l.self - l.count
