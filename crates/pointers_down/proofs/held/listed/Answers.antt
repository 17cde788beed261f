-- The ids come in rising order, so each is put behind those before it.
use Rattle.std.proofs.Common.{◌≡◌, ◌++◌, ◌∷◌, [], length, slice_get, Some, sym, ◌∙◌, ap, arith, refl, add-one}
use Rattle.std.proofs.lemmas.Option.{slice_get_read}
use Rattle.bits32.specs.Set.{members}
use Rattle.input_types.specs.Pointers.{IsRising}
use Rattle.pointers_down.proofs.Sets.{members_of_marked, ids_more, below_next, none_listed, none_in}
use Rattle.pointers_down.proofs.held.listed.Goals as goal

pub loop-pointer-init : goal.loop-pointer-init
loop-pointer-init c = record {
  so_far = rw c.empty-set.ensures none_listed;
  below = λ j p i e. absurd (none_in j (rw c.empty-set.ensures at i));
}

pub loop-pointer-preserved : goal.loop-pointer-preserved
loop-pointer-preserved c =
    let ps = c.as_slice-pointer-items.result.now in
    let k = c.loop-pointer.pointer-index in
    let p = c.pointer-item.result in
    let here : slice_get ps k ≡ Some p = slice_get_read ps (length ps) k p refl c.loop-pointer-test.true c.pointer-item.is in
    let rises : IsRising ps = c.as_slice-pointer-items.ensures.rises in
    let more : members c.mark.new.self ≡ members c.loop-pointer.set ++ c.get.result ∷ [] =
    members_of_marked c.get.result c.loop-pointer.set c.mark.new.self (omega (arith, c.get.ensures.range)) c.mark.ensures.has
    (λ j i. rw c.get.ensures.value (c.loop-pointer.invariant.below j p i here)) in
    record {
      so_far = rw (add-one k) (more ∙ ap (λ xs. xs ++ c.get.result ∷ []) c.loop-pointer.invariant.so_far ∙ rw c.get.ensures.value (sym (ids_more ps k p here)));
      below = λ j q i e.
          below_next ps k p q c.get.result c.loop-pointer.set c.mark.new.self j rises here (rw (add-one k) at e) c.get.ensures.value (c.mark.ensures.has j)
          (λ was. c.loop-pointer.invariant.below j p was here) i;
    }
