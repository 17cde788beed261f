use Rattle.std.proofs.Common.{◌≡◌, replicate}
use Rattle.cursor_core.specs.Kept.{empty_row}
use Rattle.cursor_core.proofs.stream.streams.Given as goal

abbrev pub invariant-loop : goal.invariant-loop
invariant-loop l = l.streams.items ≡ replicate l.counter empty_row
