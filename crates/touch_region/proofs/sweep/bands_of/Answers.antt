use Rattle.std.proofs.Common.{rules}
use Rattle.std.proofs.lemmas.Result.{IfOk-weaker}
use Rattle.touch_region.specs.Bands.{AreBands}
use Rattle.touch_region.proofs.Rising.{in_order}
use Rattle.touch_region.proofs.Adding.{bands_in_any_order}
use Rattle.touch_region.proofs.sweep.bands_of.Goals as goal

pub sweep-requires-clause-order : goal.sweep-requires-clause-order
sweep-requires-clause-order c =
    rw c.deref.ensures.value (in_order (λ r. r.top) c.sort_unstable_by_key.new.self.items c.sort_unstable_by_key.ensures.sorted (λ a r q k. search rules))

pub returns : goal.returns
returns c =
    let moved = rw c.in_ok-sorted.ensures.items at c.sort_unstable_by_key.ensures.permutation in
    IfOk-weaker c.sweep.result (λ bands. AreBands c.deref.result.now bands.items) (λ bands. AreBands c.args.rects.now bands.items)
    (λ bands h. bands_in_any_order c.args.rects.now c.sort_unstable_by_key.new.self.items bands.items moved (rw c.deref.ensures.value at h))
    c.sweep.ensures
