use Rattle.std.proofs.Common.{◌≡◌, length}
use Rattle.route_split.specs.Tables.{holds_at}
use Rattle.why_lines.proofs.RowSets.{RowsAre}
use Rattle.why_lines.proofs.rows.rows_of.Given as goal

-- the rows that are passed are those of the windows
abbrev pub invariant-loop-k : goal.invariant-loop-k
invariant-loop-k l = record { all : length l.rows ≡ 64; passed : RowsAre (holds_at l.touches) l.rows l.k }
