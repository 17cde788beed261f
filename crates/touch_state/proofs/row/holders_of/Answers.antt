use Rattle.std.proofs.Common.{◌==◌, ◌||◌, ◌&&◌, ◌+◌, not, refl, sym, ap, ◌∙◌, inl, inr, arith}
use Rattle.std.proofs.lemmas.Bool.{cases_lt, eq-eqb, le-leb, lt-leb}
use Rattle.std.proofs.lemmas.List.{get_or_default}
use Rattle.window_snapshot.specs.Mask.{mask_has}
use Rattle.touch_state.specs.declared.row.Row.{Row}
use Rattle.touch_state.specs.Rows.{no_row, row_of}
use Rattle.touch_state.proofs.Passes.{noted_more}
use Rattle.touch_state.proofs.row.holders_of.Goals as goal

pub loop-k-preserved : goal.loop-k-preserved
loop-k-preserved c =
    noted_more (λ w r. not (r.ids == 0)) c.args.rows.now c.loop-k.k (omega (arith, c.requires.few, c.loop-k-test.true)) (mask_has c.loop-k.holders) (mask_has c.noted-holders.result) c.loop-k.invariant
    (λ w.
    c.noted-holders.ensures w
    ∙ ap (λ (r : Row). mask_has c.loop-k.holders w || (w == c.loop-k.k + 1 && not (r.ids == 0)))
    (get_or_default c.args.rows.now c.loop-k.k c.index-rows-k.result no_row (omega arith)))

pub returns : goal.returns
returns c w =
    c.loop-k.invariant w
    ∙ elim (cases_lt c.loop-k.k w) [
      | inl lt ↦
          rw (lt-leb w c.loop-k.k lt)
          (sym (ap not (eq-eqb (row_of c.args.rows.now w).ids 0 (c.requires.above w (omega (arith, lt, c.loop-k-test.false))))))
      | inr le ↦ rw (le-leb w c.loop-k.k le) refl
    ]
