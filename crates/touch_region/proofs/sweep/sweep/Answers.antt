use Rattle.std.proofs.Common.{get_or, rules}
use Rattle.std.specs.Prelude.{pos}
use Rattle.std.proofs.lemmas.Int.{to_z-of_z}
use mir.Val.{SFits, to_z}
use mir.Syntax.{w32}
use Rattle.touch_region.specs.declared.rectangle.Rect.{Rect}
use Rattle.touch_region.proofs.Rising.{first_and_rest}
use Rattle.touch_region.proofs.Sweeping.{swept_first, swept_more, swept_all}
use Rattle.touch_region.proofs.sweep.sweep.Goals as goal

pub rows-init : goal.rows-init
rows-init c =
    let d : Rect = record { left = pos 0; top = pos 0; right = pos 0; bottom = pos 0 } in
    let fits : SFits w32 (get_or c.args.rects.now 0 d).top = search rules in
    rw c.new-bands.ensures.items
    (simp to_z-of_z (swept_first c.args.rects.now _ _ (first_and_rest c.args.rects.now d c.in-len1-up.len_at_least) c.requires.order c.requires.few))

pub rows-preserved : goal.rows-preserved
rows-preserved c =
    let fits : SFits w32 c.in-Some.bottom = search rules in
    let added = simp to_z-of_z at c.in_ok-add_band.ensures in
    rw added.2
    (simp to_z-of_z
    (swept_more c.args.rects.now (to_z w32 c.rows.top-bits) c.in-Some.bottom c.rows.bands.items c.rows.rest.now c.below-rest.result.now added.0 c.rows.invariant c.in-Some.ensures added.1
    c.below-rest.ensures.order (simp to_z-of_z at c.below-rest.ensures.same) (simp to_z-of_z at c.below-rest.ensures.fewer)))

pub returns : goal.returns
returns c =
    swept_all c.args.rects.now (to_z w32 c.rows.top-bits) c.rows.bands.items c.rows.rest.now c.rows.invariant c.in_default-next_edge.ensures
