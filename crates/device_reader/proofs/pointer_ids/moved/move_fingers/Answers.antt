-- Each finger keeps its id, and there are as many contacts as fingers.
use Rattle.std.specs.Prelude.{◌≡◌, ◌≤◌, ◌<◌, false, length, pos, ◌∷◌, ◌++◌, [], ◌+◌, take, drop, get_or}
use Rattle.std.proofs.Common.{arith, sym, ◌∙◌, ap, set, refl}
use Rattle.std.proofs.lemmas.List.{take_all, length-set, drop-set-lt, append-nil, drop_all}
use Rattle.std.proofs.lemmas.Grind.{take-set_at}
use Rattle.device_reader.specs.declared.slot_accumulator.contacts.Contact.{Contact}
use Rattle.device_reader.specs.PointerIds.PointerIds.{named_contact}
use Rattle.device_reader.specs.PointerIds.Following.{moved}
use Rattle.device_reader.proofs.PointerIds.Following.{follow, one_moved, same_length}
use Rattle.device_reader.proofs.pointer_ids.moved.move_fingers.Goals as goal

pub loop-i-init : goal.loop-i-init
loop-i-init c = record {
  all = refl;
  count = omega (arith, same_length c.args.named.now c.args.now.now c.requires, ap (λ cs. length cs) c.as_slice-contacts.ensures.value);
}

pub loop-i-preserved : goal.loop-i-preserved
loop-i-preserved c =
    let none : Contact = record { slot = 0; tracking = pos 0; x = pos 0; y = pos 0; palm = false } in
    let i = c.loop-i.i in
    let named = c.loop-i.named in
    let contacts = c.as_slice-contacts.result.now in
    let x = c.name.result in
    let contacts_left : i < length contacts = omega (arith, ap (λ cs. length cs) c.as_slice-contacts.ensures.value, c.len-i-end.ensures.value, c.loop-i-test.true) in
    let fingers_left : i < length named = omega (arith, contacts_left, c.loop-i.invariant.count) in
    let front : take (i + 1) (set named i x) ≡ take i named ++ x ∷ [] = take-set_at named i (i + 1) x refl fingers_left in
    let behind : drop (i + 1) (set named i x) ≡ drop (i + 1) named = drop-set-lt (i + 1) named i x (omega arith) in
    let finger = c.index-as_slice-i.result in
    let same : x ≡ named_contact (get_or contacts i none) (get_or named i finger).id =
    c.name.ensures ∙ ap (λ id. named_contact (get_or contacts i none) id) (ap (λ ns. (get_or ns i finger).id) c.as_slice.ensures.value) in
    record {
      all =
          rw (c.set.ensures, front, behind)
          (ap (λ n. (take i named ++ n ∷ []) ++ moved (drop (i + 1) named) (drop (i + 1) contacts)) same
          ∙ one_moved (take i named) named contacts i finger none fingers_left contacts_left
          ∙ c.loop-i.invariant.all);
      count = ap (λ ns. length ns) c.set.ensures ∙ (length-set named i x ∙ c.loop-i.invariant.count);
    }

pub returns : goal.returns
returns c =
    let i = c.loop-i.i in
    let named = c.loop-i.named in
    let contacts = c.as_slice-contacts.result.now in
    let none_left : length named ≤ i = omega (arith, c.loop-i.invariant.count, ap (λ cs. length cs) c.as_slice-contacts.ensures.value, c.len-i-end.ensures.value, c.loop-i-test.false) in
    sym (take_all i named none_left)
    ∙ (sym (ap (λ xs. take i named ++ moved xs (drop i contacts)) (drop_all i named none_left) ∙ append-nil (take i named)) ∙ c.loop-i.invariant.all)
    ∙ ap (λ cs. moved c.args.named.now cs) c.as_slice-contacts.ensures.value
    ∙ sym (follow c.args.named.now c.args.now.now c.len-i-end.ensures.contacts c.requires)
