-- The fingers are named, and the packet adds its motions.
use Rattle.std.specs.Prelude.{◌≡◌, ℕ, false, List, ◌∷◌}
use Rattle.std.proofs.Common.{refl, sym, ◌∙◌, ap, subst}
use Rattle.device_reader.specs.declared.slot_accumulator.contacts.Contact.{Contact}
use Rattle.device_reader.specs.SlotAccumulator.SlotContacts.{contacts_at}
use Rattle.device_reader.specs.declared.pointer_ids.named.Named.{Named}
use Rattle.device_reader.specs.PointerIds.PointerIds.{named_after, assigned}
use Rattle.device_reader.proofs.PointerIds.SameSlots.{same_named, same_cancelled}
use Rattle.device_reader.specs.Packets.{packets}
use Rattle.device_reader.specs.Cooked.{TouchStandsFor}
use Rattle.device_reader.proofs.Packet.{touch_step, packet_named}
use Rattle.device_reader.proofs.touch.Touch.next_fingers.Goals as goal

pub returns-clause-given : goal.returns-clause-given
returns-clause-given c = λ plan past e ends h.
    let cs : List Contact = c.contacts-contacts.result in
    let before : List Named = named_after (packets plan.slots past) in
    let ids : List Named = c.args.self.now.ids in
    touch_step plan past e c.args.args.now.items c.next.new.given.items before cs c.assign-pointers.result c.args.self.now.gestures
    ends refl
    (c.contacts-contacts.ensures.events (e ∷ past) h.slots_stand ∙ ap (λ n. contacts_at n (e ∷ past)) h.slots_are)
    (c.assign-pointers.ensures.pointers ∙ ap (λ ns. assigned ns) (same_named ids before cs h.ids_are))
    (λ i. c.assign-pointers.ensures.cancelled i ∙ same_cancelled ids before cs i h.ids_are)
    h.gestures_are
    c.in-Ok.ensures.ok

pub returns-clause-after : goal.returns-clause-after
returns-clause-after c = λ plan past e ends h.
    subst
    (λ (written : ℕ). TouchStandsFor plan (e ∷ past)
    (record { slots = c.args.self.now.slots; written = written; anew = false; ids = c.assign-pointers.new.self; fingers = c.slots-self.result; gestures = c.next.new.self }))
    (sym c.empty-self.ensures)
    (packet_named plan past e c.args.self.now c.contacts-contacts.result c.assign-pointers.new.self c.assign-pointers.result c.slots-self.result c.next.new.self ends h
    (c.contacts-contacts.ensures.events (e ∷ past) h.slots_stand ∙ ap (λ n. contacts_at n (e ∷ past)) h.slots_are)
    c.contacts-contacts.ensures.now c.assign-pointers.ensures.last c.assign-pointers.ensures.pointers c.slots-self.ensures.slots c.in-Ok.ensures.after)
