-- One finger more has its id; palms are passed.
use Rattle.std.specs.Prelude.{◌≡◌, false, List, [], ◌∷◌, ◌++◌, ◌+◌, length, drop, get_or, pos}
use Rattle.std.proofs.Common.{arith, sym, ◌∙◌, ap, length-append}
use Rattle.std.proofs.Math.Path.{fun_ext}
use Rattle.bits32.specs.Set.{is_in}
use Rattle.device_reader.specs.declared.slot_accumulator.contacts.Contact.{Contact}
use Rattle.device_reader.specs.PointerIds.PointerIds.{fingers, named_contact, named_from}
use Rattle.device_reader.proofs.PointerIds.Naming.{one_named, drop_at, finger_first, palm_first}
use Rattle.device_reader.proofs.pointer_ids.ids.named.Goals.{then-not-contact, else-not-contact}
use Rattle.device_reader.proofs.pointer_ids.ids.named.Goals as goal

pub loop-contact-init : goal.loop-contact-init
loop-contact-init c = record {
  all =
      ap (λ ns. ns ++ named_from c.args.before.now (λ k. is_in k c.ids_of-taken.result) (fingers c.args.now.now)) c.empty-named.ensures
      ∙ ap (λ t. named_from c.args.before.now t (fingers c.args.now.now)) (fun_ext c.ids_of-taken.ensures.ids);
  few = omega (arith, c.ids_of-taken.ensures.few, c.requires.before);
  many = omega (arith, ap (λ ns. length ns) c.empty-named.ensures);
}

pub loop-contact-preserved : goal.loop-contact-preserved
loop-contact-preserved c =
    let zero : Contact = record { slot = 0; tracking = pos 0; x = pos 0; y = pos 0; palm = false } in
    let contact : Contact = get_or c.args.now.now c.loop-contact.contact-index zero in
    let rest : List Contact = drop (c.loop-contact.contact-index + 1) c.args.now.now in
    let next : drop c.loop-contact.contact-index c.args.now.now ≡ contact ∷ rest = drop_at c.args.now.now c.loop-contact.contact-index zero c.loop-contact-test.true in
    elim c.if-not-contact.branch [
      | then-not-contact w ↦
          let first : fingers (drop c.loop-contact.contact-index c.args.now.now) ≡ contact ∷ fingers rest = ap (λ xs. fingers xs) next ∙ finger_first contact rest w.if-not-contact.true in
          rw (w.taken-is, w.named-is) (record {
            all =
                ap (λ ns. ns ++ named_from c.args.before.now (λ k. is_in k w.id_for-id.new.taken) (fingers rest))
                (w.push.ensures ∙ ap (λ n. c.loop-contact.named ++ n ∷ []) (w.name.ensures ∙ ap (λ i. named_contact contact i) w.id_for-id.ensures.id))
                ∙ one_named c.args.before.now c.loop-contact.named c.loop-contact.taken w.id_for-id.new.taken contact (fingers rest) w.id_for-id.ensures.taken
                ∙ ap (λ xs. c.loop-contact.named ++ named_from c.args.before.now (λ k. is_in k c.loop-contact.taken) xs) (sym first)
                ∙ c.loop-contact.invariant.all;
            few = omega (arith, c.loop-contact.invariant.few, w.id_for-id.ensures.few);
            many = omega (arith, ap (λ ns. length ns) w.push.ensures, length-append c.loop-contact.named (w.name.result ∷ []), c.loop-contact.invariant.many);
          })
      | else-not-contact w ↦
          rw (w.taken-is, w.named-is) (record {
            all =
                ap (λ xs. c.loop-contact.named ++ named_from c.args.before.now (λ k. is_in k c.loop-contact.taken) xs)
                (sym (ap (λ xs. fingers xs) next ∙ palm_first contact rest w.if-not-contact.false))
                ∙ c.loop-contact.invariant.all;
            few = omega (arith, c.loop-contact.invariant.few);
            many = omega (arith, c.loop-contact.invariant.many);
          })
    ]
