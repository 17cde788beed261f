use Rattle.std.proofs.Common.{Bool, ◌==◌, ◌||◌, ◌&&◌, ◌+◌, refl, sym, ap, ap₂, ◌∙◌, inl, inr, arith}
use Rattle.std.proofs.lemmas.Bool.{cases_lt, le-leb, lt-leb}
use Rattle.std.proofs.lemmas.List.{get_or_default}
use Rattle.window_snapshot.specs.Mask.{mask_has}
use Rattle.touch_state.specs.declared.row.Row.{Row}
use Rattle.touch_state.specs.Rows.{no_row, row_of}
use Rattle.touch_state.proofs.Passes.{noted_more}
use Rattle.touch_state.proofs.row.began_at.Goals as goal

pub loop-k-preserved : goal.loop-k-preserved
loop-k-preserved c =
    noted_more (λ w r. mask_has c.args.hits w && r.since == c.args.place) c.args.rows.now c.loop-k.k (omega (arith, c.loop-k-test.true, c.top_of-top.ensures.few)) (mask_has c.loop-k.began)
    (mask_has c.with_one-began.result) c.loop-k.invariant
    (λ w.
    c.with_one-began.ensures w
    ∙ ap₂ (λ (b : Bool) (r : Row). mask_has c.loop-k.began w || (w == c.loop-k.k + 1 && (b && r.since == c.args.place))) c.mask_has.ensures
    (get_or_default c.args.rows.now c.loop-k.k c.index-rows-k.result no_row (omega arith)))

pub returns : goal.returns
returns c w =
    c.loop-k.invariant w
    ∙ elim (cases_lt c.loop-k.k w) [
      | inl lt ↦
          rw (lt-leb w c.loop-k.k lt)
          (sym (ap (λ b. b && (row_of c.args.rows.now w).since == c.args.place) (c.top_of-top.ensures.above w (omega (arith, lt, c.loop-k-test.false)))))
      | inr le ↦ rw (le-leb w c.loop-k.k le) refl
    ]
