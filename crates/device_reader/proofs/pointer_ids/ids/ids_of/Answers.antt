-- Each contact marks its id.
use Rattle.std.specs.Prelude.{◌+◌, ◌||◌, drop, nat_eq}
use Rattle.std.proofs.Common.{arith, sym, ◌∙◌, ap, refl}
use Rattle.bits32.specs.Set.{is_in, members_below}
use Rattle.device_reader.specs.PointerIds.PointerIds.{has_id}
use Rattle.device_reader.proofs.PointerIds.Taken.{none_in, one_more}
use Rattle.device_reader.proofs.PointerIds.Naming.{marked_next, drop_item}
use Rattle.device_reader.proofs.pointer_ids.ids.ids_of.Goals as goal

pub loop-contact-init : goal.loop-contact-init
unfolding members_below
loop-contact-init c = record {
  ids = λ k. rw (c.empty-ids.ensures, none_in k) refl;
  few = rw c.empty-ids.ensures (omega arith);
}

pub loop-contact-preserved : goal.loop-contact-preserved
loop-contact-preserved c = record {
  ids = λ k.
      marked_next k (drop (c.loop-contact.contact-index + 1) c.args.contacts.now) c.contact-item.result c.loop-contact.ids c.mark.new.self
      (c.mark.ensures.has k ∙ ap (λ n. nat_eq k n || is_in k c.loop-contact.ids) c.get.ensures.value)
      ∙ ap (λ xs. is_in k c.loop-contact.ids || has_id k xs)
      (sym (drop_item c.args.contacts.now c.loop-contact.contact-index c.contact-item.result c.loop-contact-test.true c.contact-item.is))
      ∙ c.loop-contact.invariant.ids k;
  few = omega (arith, c.loop-contact.invariant.few, one_more 32 c.get.result c.loop-contact.ids c.mark.new.self c.mark.ensures.has);
}
