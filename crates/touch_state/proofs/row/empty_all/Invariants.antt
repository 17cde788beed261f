use Rattle.touch_state.specs.Rows.{left_with}
use Rattle.touch_state.proofs.Passes.{Passed}
use Rattle.touch_state.proofs.row.empty_all.Given as goal

abbrev pub invariant-loop-row : goal.invariant-loop-row
invariant-loop-row l = Passed (λ w. left_with 0) l.fn.rows l.rows l.row-index
