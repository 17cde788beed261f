use Rattle.std.proofs.Common.{◌≡◌, get_or, rules, arith, sym, ◌∙◌, ap, subst}
use Rattle.std.specs.Prelude.{pos, ◌<ℤ◌, Some, None}
use Rattle.std.proofs.lemmas.Int.{ints, to_z-of_z}
use mir.Val.{SFits}
use mir.Syntax.{w32}
use Rattle.touch_region.specs.declared.rectangle.Rect.{Rect}
use Rattle.touch_region.specs.Edges.{IsNextEdge}
use Rattle.touch_region.proofs.Rising.{first_and_rest}
use Rattle.touch_region.proofs.Next.{next_from, next_first, next_last, next_is}
use Rattle.touch_region.proofs.sweep.next_edge.Goals as goal

pub returns-then-y-rect : goal.returns-then-y-rect
returns-then-y-rect c =
    let d : Rect = record { left = pos 0; top = pos 0; right = pos 0; bottom = pos 0 } in
    let fits_y = c.ranges.y in
    let fits_top : SFits w32 (get_or c.loop-rest.rest.now 0 d).top = search rules in
    let fits : SFits w32 c.nearer.result = search rules in
    let lower : c.args.y <ℤ (get_or c.loop-rest.rest.now 0 d).top = omega (arith, ints, c.if-y-rect.true) in
    let done = simp to_z-of_z at c.loop-rest.invariant in
    let found : Some c.nearer.result ≡ next_from None c.args.y c.args.rects.now =
    ap Some (simp to_z-of_z at c.nearer.ensures) ∙ (next_first c.loop-rest.next c.args.y c.loop-rest.rest.now _ _ (first_and_rest c.loop-rest.rest.now d c.in-len1-up.len_at_least) lower ∙ done) in
    simp to_z-of_z (subst (IsNextEdge c.args.rects.now c.args.y) (sym found) (next_is c.args.y c.args.rects.now c.requires))

pub returns : goal.returns
returns c =
    let fits_y = c.ranges.y in
    let done = simp to_z-of_z at c.loop-rest.invariant in
    let found : c.loop-rest.next ≡ next_from None c.args.y c.args.rects.now = next_last c.loop-rest.next c.args.y c.loop-rest.rest.now c.in_default.len_below ∙ done in
    subst (IsNextEdge c.args.rects.now c.args.y) (sym found) (next_is c.args.y c.args.rects.now c.requires)
