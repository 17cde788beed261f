use Rattle.std.proofs.Common.{get_or, rules, arith, inl, inr, ◌⊎◌}
use Rattle.std.specs.Prelude.{pos, ◌≤ℤ◌, ◌<ℤ◌}
use Rattle.std.proofs.lemmas.Int.{ints, to_z-of_z}
use mir.Val.{SFits}
use mir.Syntax.{w32}
use Rattle.touch_region.specs.declared.rectangle.Rect.{Rect}
use Rattle.touch_region.proofs.Rising.{first_and_rest}
use Rattle.touch_region.proofs.Opening.{opened_more, opened_kept, opened_before}
use Rattle.touch_region.proofs.sweep.add_spans.Goals as goal
use Rattle.touch_region.proofs.sweep.add_spans.Goals.{else-y-rect-2-via-then-y-rect-2+else-rect, else-y-rect-2-via-else-y-rect-2}

pub returns-then-y-rect-clause-same : goal.returns-then-y-rect-clause-same
returns-then-y-rect-clause-same c =
    let d : Rect = record { left = pos 0; top = pos 0; right = pos 0; bottom = pos 0 } in
    let fits_y = c.ranges.y in
    let fits_top : SFits w32 (get_or c.loop-rest.rest.now 0 d).top = search rules in
    let lower : c.args.y <ℤ (get_or c.loop-rest.rest.now 0 d).top = omega (arith, ints, c.if-y-rect.true) in
    opened_before c.args.spans.now.items c.args.rects.now c.args.y c.loop-rest.spans.items c.loop-rest.rest.now _ _ (first_and_rest c.loop-rest.rest.now d c.in-len1-up.len_at_least)
    (simp to_z-of_z at c.loop-rest.invariant) lower

pub loop-rest-preserved-in_ok-push : goal.loop-rest-preserved-in_ok-push
loop-rest-preserved-in_ok-push c =
    let d : Rect = record { left = pos 0; top = pos 0; right = pos 0; bottom = pos 0 } in
    let fits_y = c.ranges.y in
    let fits_top : SFits w32 (get_or c.loop-rest.rest.now 0 d).top = search rules in
    let fits_bottom : SFits w32 (get_or c.loop-rest.rest.now 0 d).bottom = search rules in
    let fits_left : SFits w32 (get_or c.loop-rest.rest.now 0 d).left = search rules in
    let fits_right : SFits w32 (get_or c.loop-rest.rest.now 0 d).right = search rules in
    let begun : (get_or c.loop-rest.rest.now 0 d).top ≤ℤ c.args.y = omega (arith, ints, c.if-y-rect.false) in
    let open' : c.args.y <ℤ (get_or c.loop-rest.rest.now 0 d).bottom = omega (arith, ints, c.if-y-rect-2.true) in
    let wide : (get_or c.loop-rest.rest.now 0 d).left <ℤ (get_or c.loop-rest.rest.now 0 d).right = omega (arith, ints, c.if-rect.true) in
    rw (c.in_ok-push.ensures.items, c.columns.ensures)
    (simp to_z-of_z (opened_more c.args.spans.now.items c.args.rects.now c.args.y c.loop-rest.spans.items c.loop-rest.rest.now _ _ (first_and_rest c.loop-rest.rest.now d c.in-len1-up.len_at_least)
    (simp to_z-of_z at c.loop-rest.invariant) begun open' wide))

pub loop-rest-preserved : goal.loop-rest-preserved
loop-rest-preserved c =
    let d : Rect = record { left = pos 0; top = pos 0; right = pos 0; bottom = pos 0 } in
    let fits_y = c.ranges.y in
    let fits_bottom : SFits w32 (get_or c.loop-rest.rest.now 0 d).bottom = search rules in
    let empty : ((get_or c.loop-rest.rest.now 0 d).bottom ≤ℤ c.args.y) ⊎ ((get_or c.loop-rest.rest.now 0 d).right ≤ℤ (get_or c.loop-rest.rest.now 0 d).left) =
    elim c.else-y-rect-2.branch [
      | else-y-rect-2-via-then-y-rect-2+else-rect w ↦
          let fits_left : SFits w32 (get_or c.loop-rest.rest.now 0 d).left = search rules in
          let fits_right : SFits w32 (get_or c.loop-rest.rest.now 0 d).right = search rules in
          inr (omega (arith, ints, w.if-rect.false))
      | else-y-rect-2-via-else-y-rect-2 w ↦ inl (omega (arith, ints, w.if-y-rect-2.false))
    ] in
    simp to_z-of_z (opened_kept c.args.spans.now.items c.args.rects.now c.args.y c.loop-rest.spans.items c.loop-rest.rest.now _ _ (first_and_rest c.loop-rest.rest.now d c.in-len1-up.len_at_least)
    (simp to_z-of_z at c.loop-rest.invariant) empty)
