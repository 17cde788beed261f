use Rattle.std.proofs.Common.{◌==◌}
use Rattle.touch_state.specs.Rows.{IsTaken}
use Rattle.touch_state.proofs.Passes.{PassedBy}
use Rattle.touch_state.proofs.row.lift_all.Given as goal

abbrev pub invariant-loop-k : goal.invariant-loop-k
invariant-loop-k l = PassedBy (IsTaken (λ i. i == l.id)) l.fn.rows l.rows l.k
