use Rattle.touch_state.specs.Rows.{IsLeastSince}
use Rattle.touch_state.proofs.row.least_since.Given as goal

abbrev pub invariant-loop-k : goal.invariant-loop-k
invariant-loop-k l = IsLeastSince l.rows l.hits l.k l.least
