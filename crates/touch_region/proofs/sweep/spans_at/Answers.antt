use Rattle.std.proofs.Common.{◌≡◌, ℤ, rules, sym, ◌∙◌, ap}
use Rattle.std.specs.Prelude.{◌<ℤ◌}
use Rattle.std.proofs.lemmas.Int.{to_z-of_z}
use Rattle.std.proofs.lemmas.List.Sorted.{All-permutation, list_any-IsPermutation}
use Rattle.std.proofs.lemmas.Result.{IfOk-weaker}
use Rattle.touch_region.specs.Between.{is_between}
use Rattle.touch_region.specs.Spans.{spans_hold}
use Rattle.touch_region.specs.RectList.{region_holds}
use Rattle.touch_region.proofs.Rising.{in_order}
use Rattle.touch_region.proofs.sweep.spans_at.Goals as goal

pub joined-requires-clause-order : goal.joined-requires-clause-order
joined-requires-clause-order c =
    rw c.deref.ensures.value (in_order (λ s. s.from) c.sort_unstable_by_key.new.self.items c.sort_unstable_by_key.ensures.sorted (λ a r q k. search rules))

pub joined-requires-clause-wide : goal.joined-requires-clause-wide
joined-requires-clause-wide c =
    rw c.deref.ensures.value (All-permutation (λ s. s.from <ℤ s.until) _ _ c.sort_unstable_by_key.ensures.permutation c.in_ok-add_spans.ensures.wide)

pub returns-clause-same : goal.returns-clause-same
returns-clause-same c =
    let fits_y = c.ranges.y in
    let added : (x : ℤ) → spans_hold c.add_spans.new.spans.items x ≡ region_holds c.args.rects.now x c.args.y = λ x. simp (to_z-of_z, c.clear.ensures.items) at (c.in_ok-add_spans.ensures.same x) in
    IfOk-weaker c.joined.result (λ spans. (x : ℤ) → spans_hold spans.items x ≡ spans_hold c.deref.result.now x) (λ spans. (x : ℤ) → spans_hold spans.items x ≡ region_holds c.args.rects.now x c.args.y)
    (λ spans h x.
    h x
    ∙ (ap (λ ss. spans_hold ss x) c.deref.ensures.value
    ∙ (sym (list_any-IsPermutation (λ s. is_between s.from x s.until) c.add_spans.new.spans.items c.sort_unstable_by_key.new.self.items c.sort_unstable_by_key.ensures.permutation) ∙ added x)))
    c.joined.ensures.same
