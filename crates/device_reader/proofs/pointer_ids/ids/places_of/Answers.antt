-- At first no finger has a place, and each step gives one its place.
use Rattle.std.specs.Prelude.{◌≡◌, ◌<◌, ◌-◌, ◌+◌, ℕ, List, length, set}
use Rattle.std.proofs.Common.{sym, ◌∙◌, ap, subst, arith, refl, length-set}
use Rattle.device_reader.specs.declared.pointer_ids.named.Named.{Named}
use Rattle.device_reader.proofs.PointerIds.Places.{none_placed, one_placed, LeadsFrom}
use Rattle.device_reader.proofs.pointer_ids.ids.places_of.Goals as goal

pub loop-left-init : goal.loop-left-init
loop-left-init c = record {
  len = refl;
  left = omega arith;
  leads = none_placed c.args.named.now;
}

pub loop-left-preserved : goal.loop-left-preserved
loop-left-preserved c =
    let ns : List Named = c.args.named.now in
    let n : Named = c.index-named-left.result in
    let at : ℕ = c.loop-left.left - 1 in
    let back : at + 1 ≡ c.loop-left.left = omega (arith, c.loop-left-test.true) in
    let within : at < length ns = omega (arith, c.loop-left.invariant.left, c.loop-left-test.true) in
    let same : c.get.result ≡ n.id = c.get.ensures.value ∙ ap (λ (m : Named). m.id) (sym c.index-named-left.is) in
    let rest = subst (λ k. LeadsFrom k c.loop-left.places ns) (sym back) c.loop-left.invariant.leads in
    record {
      len = length-set c.loop-left.places c.from.result (at + 1) ∙ c.loop-left.invariant.len;
      left = omega (arith, within);
      leads =
          subst (λ k. LeadsFrom at (set c.loop-left.places k (at + 1)) ns) (sym (c.from.ensures ∙ same))
          (one_placed ns c.loop-left.places at n c.loop-left.invariant.len within c.index-named-left.is rest);
    }

pub returns-clause-places : goal.returns-clause-places
returns-clause-places c =
    let last : c.loop-left.left ≡ 0 = omega arith in
    subst (λ k. LeadsFrom k c.loop-left.places c.args.named.now) last c.loop-left.invariant.leads
