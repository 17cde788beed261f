use Rattle.std.proofs.Common.{◌+◌, ◌-◌, ◌<◌, ◌≡◌, ◌&&◌, ◌==◌, Bool, length, set, get_or, sym, ap, ap₂, ◌∙◌, subst, arith}
use Rattle.std.proofs.lemmas.List.{get_or_default}
use Rattle.std.specs.Int.{bit_at}
use Rattle.window_snapshot.specs.Mask.{mask_has}
use Rattle.touch_state.specs.declared.row.Row.{Row}
use Rattle.touch_state.specs.Rows.{no_row, row_of, after_give}
use Rattle.touch_state.proofs.Passes.{Passed, passed_more, passed_top}
use Rattle.touch_state.proofs.row.give_all.Goals as goal

pub loop-k-preserved : goal.loop-k-preserved
loop-k-preserved c =
    let low : c.loop-k.k < length c.loop-k.rows = omega (arith, c.requires.few, c.loop-k-test.true) in
    let is : c.after_give.result ≡ after_give (mask_has c.args.to (c.loop-k.k + 1)) c.args.id c.args.place (get_or c.loop-k.rows c.loop-k.k no_row) =
    c.after_give.ensures
    ∙ ap₂ (λ (b : Bool) (r : Row). after_give b c.args.id c.args.place r) c.mask_has.ensures
    (get_or_default c.loop-k.rows c.loop-k.k c.index-rows-k.result no_row low) in
    subst (λ r. Passed (λ w. after_give (mask_has c.args.to w) c.args.id c.args.place) c.args.rows.now (set c.loop-k.rows c.loop-k.k r) (c.loop-k.k + 1))
    (sym is)
    (passed_more (λ w. after_give (mask_has c.args.to w) c.args.id c.args.place) c.args.rows.now c.loop-k.rows c.loop-k.k low c.loop-k.invariant)

pub returns : goal.returns
returns c =
    passed_top (λ w. after_give (mask_has c.args.to w) c.args.id c.args.place) c.args.rows.now c.loop-k.rows c.loop-k.k c.loop-k.invariant
    (λ w lt.
    ap (λ (b : Bool). after_give b c.args.id c.args.place (row_of c.args.rows.now w)) (c.requires.above w (omega (arith, lt, c.loop-k-test.false))))
    (λ w none. ap (λ (b : Bool). after_give (b && bit_at c.args.to (w - 1) == 1) c.args.id c.args.place no_row) none)
