use Rattle.std.proofs.Common.{◌≡◌, ◌+◌, ◌≤◌, ◌++◌, drop, take, length}
use Rattle.motion_batch.specs.Calls.{due_of_rows}
use Rattle.motion_batch.proofs.batcher.Batcher.append_due.Given as goal

-- what is released so far, and then what is due of the rows that are left, is all
abbrev pub invariant-loop-row : goal.invariant-loop-row
invariant-loop-row l = record {
  rest : l.out.items ++ due_of_rows l.at (l.row + 1) (drop l.row l.self) ≡ l.initial.out.items ++ due_of_rows l.at 1 l.self;
  more : length l.initial.out.items ≤ length l.out.items;
  front : take (length l.initial.out.items) l.out.items ≡ l.initial.out.items;
}
