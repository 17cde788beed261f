use Rattle.std.proofs.Common.{◌≡◌, drop}
use Rattle.plain_calls.specs.Windows.{windows_from}
use Rattle.plain_calls.proofs.ReadPointers.{in_front}
use Rattle.plain_calls.proofs.windows.read_windows.Given as goal

abbrev pub invariant-loop-row : goal.invariant-loop-row
invariant-loop-row l = record {
  read : in_front l.windows.items (windows_from (drop l.row-index l.rows) l.rest) ≡ windows_from l.rows l.rects;
}
