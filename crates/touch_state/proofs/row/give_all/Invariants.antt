use Rattle.window_snapshot.specs.Mask.{mask_has}
use Rattle.touch_state.specs.Rows.{after_give}
use Rattle.touch_state.proofs.Passes.{Passed}
use Rattle.touch_state.proofs.row.give_all.Given as goal

abbrev pub invariant-loop-k : goal.invariant-loop-k
invariant-loop-k l = Passed (λ w. after_give (mask_has l.to w) l.id l.place) l.fn.rows l.rows l.k
