use Rattle.std.proofs.Common.{◌==◌, subst, arith}
use Rattle.std.proofs.lemmas.List.{get_or_default}
use Rattle.touch_state.specs.Rows.{no_row, row_of, IsTaken}
use Rattle.touch_state.proofs.Passes.{by_more, by_top}
use Rattle.touch_state.proofs.Sets.{nothing_taken, empty_taken}
use Rattle.touch_state.proofs.row.lift_all.Goals as goal

pub loop-k-preserved : goal.loop-k-preserved
loop-k-preserved c =
    by_more (IsTaken (λ i. i == c.args.id)) c.args.rows.now c.loop-k.rows c.loop-k.k c.lifted.result (omega (arith, c.requires.few, c.loop-k-test.true))
    c.loop-k.invariant
    (subst (λ r. IsTaken (λ i. i == c.args.id) r c.lifted.result)
    (get_or_default c.loop-k.rows c.loop-k.k c.index-rows-k.result no_row (omega (arith, c.requires.few, c.loop-k-test.true)))
    c.lifted.ensures)

pub returns : goal.returns
returns c =
    by_top (IsTaken (λ i. i == c.args.id)) c.args.rows.now c.loop-k.rows c.loop-k.k c.loop-k.invariant
    (λ w lt. empty_taken (λ i. i == c.args.id) (row_of c.args.rows.now w) (c.requires.above w (omega (arith, lt, c.loop-k-test.false))))
    (nothing_taken (λ i. i == c.args.id))
