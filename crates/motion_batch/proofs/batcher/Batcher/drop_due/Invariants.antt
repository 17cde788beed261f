use Rattle.std.proofs.Common.{◌≡◌, ◌++◌, map, drop, take}
use Rattle.motion_batch.specs.Rule.{left_by}
use Rattle.motion_batch.proofs.batcher.Batcher.drop_due.Given as goal

-- the rows so far have lost what is due, and the others stand as they were
abbrev pub invariant-loop-row : goal.invariant-loop-row
invariant-loop-row l = l.self-inside.pending ≡ map (left_by l.at) (take l.row l.initial.self-inside.pending) ++ drop l.row l.initial.self-inside.pending
