use Rattle.std.proofs.Common.{◌≡◌, rules, ◌∙◌, arith, ◌≤◌, ◌<◌, length}
use Rattle.std.proofs.lemmas.Int.{to_z-of_z}
use Rattle.touch_region.proofs.Adding.{with_some, with_none}
use Rattle.touch_region.proofs.sweep.add_band.Goals as goal

pub returns-in_ok-push : goal.returns-in_ok-push
returns-in_ok-push c =
    let fits_top = c.ranges.top in
    let fits_bottom = c.ranges.bottom in
    let some : 1 ≤ length c.in_ok-spans.spans.items = search rules in
    (c.in_ok-spans.spans.items, simp to_z-of_z at c.in_ok-spans.ensures.same, simp to_z-of_z at c.in_ok-push.ensures.items ∙ with_some c.args.top c.args.bottom c.in_ok-spans.spans.items c.args.bands.now.items some)

pub returns-else-not-is_empty : goal.returns-else-not-is_empty
returns-else-not-is_empty c =
    let fits_top = c.ranges.top in
    let zero : length c.in_ok-spans.spans.items ≡ 0 = search rules in
    let none : length c.in_ok-spans.spans.items < 1 = omega arith in
    (c.in_ok-spans.spans.items, simp to_z-of_z at c.in_ok-spans.ensures.same, with_none c.args.top c.args.bottom c.in_ok-spans.spans.items c.args.bands.now.items none)
