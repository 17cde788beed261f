use Rattle.std.proofs.Common.{◌≡◌, ℕ, ◌≤◌, length, drop}
use Rattle.input_types.specs.Pointers.{EndsBelow}
use Rattle.plain_calls.specs.Plain.{pointers_from}
use Rattle.plain_calls.proofs.ReadPointers.{in_front}
use Rattle.plain_calls.proofs.pointers.pointers_of.Given as goal

abbrev pub invariant-loop-row : goal.invariant-loop-row
invariant-loop-row l = record {
  read : in_front l.list (pointers_from l.least (drop l.row-index l.rows)) ≡ pointers_from 0 l.rows;
  count : length l.list ≡ l.row-index;
  ends : (n : ℕ) → l.least ≤ n → EndsBelow l.list n;
  least : l.least ≤ 32;
}
