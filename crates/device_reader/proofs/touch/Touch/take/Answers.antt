-- An event that ends no packet is written to a slot.
use Rattle.std.specs.Prelude.{◌≡◌, ℕ, true, false, List, map}
use Rattle.std.proofs.Common.{sym, ◌∙◌, ap}
use Rattle.raw_events.specs.Packets.{is_report}
use Rattle.device_reader.specs.declared.slot_accumulator.contacts.Contact.{Contact}
use Rattle.device_reader.specs.declared.slot_accumulator.slots.Row.{Row}
use Rattle.device_reader.specs.SlotAccumulator.Contacts.{put_at}
use Rattle.device_reader.specs.SlotAccumulator.SlotContacts.{row_in}
use Rattle.device_reader.specs.PointerIds.Slots.{is_written, contact_where, last_packet}
use Rattle.device_reader.specs.Packets.{packets}
use Rattle.device_reader.proofs.Still.{no_packet_stands, one_written}
use Rattle.device_reader.proofs.touch.Touch.take.Goals as goal

pub returns-in-Nothing-clause-after : goal.returns-in-Nothing-clause-after
returns-in-Nothing-clause-after c = λ plan past h.
    let other : is_report c.args.event.now ≡ false = sym c.is_report.ensures ∙ c.if-is_report.false in
    no_packet_stands plan past c.args.event.now c.args.self.now c.write.new.self c.args.self.now.written c.args.self.now.anew other h
    (c.write.ensures.state past h.slots_stand) (c.write.ensures.slots ∙ h.slots_are)
    (λ a. c.in-Nothing.ensures.change.0 ∙ h.packets_stand.contacts_are a
    ∙ ap (λ (rows : List Row). map (λ (d : Contact). contact_where (λ s. is_written c.args.self.now.written s) (row_in rows) d) (last_packet (packets plan.slots past))) (sym c.in-Nothing.ensures.change.1))

pub returns-in-Position-clause-after : goal.returns-in-Position-clause-after
returns-in-Position-clause-after c = λ plan past h.
    let other : is_report c.args.event.now ≡ false = sym c.is_report.ensures ∙ c.if-is_report.false in
    let s : ℕ = c.in-Position.slot in
    let now : ℕ → Row = row_in c.write.new.self.rows in
    no_packet_stands plan past c.args.event.now c.args.self.now c.write.new.self c.mark.new.self c.args.self.now.anew other h
    (c.write.ensures.state past h.slots_stand) (c.write.ensures.slots ∙ h.slots_are)
    (λ a. c.in-Position.ensures.change.1
    ∙ ap (λ (cs : List Contact). map (λ (d : Contact). put_at s (now s).x (now s).y d) cs) (h.packets_stand.contacts_are a)
    ∙ one_written c.args.self.now.written c.mark.new.self s (row_in c.args.self.now.slots.rows) now (last_packet (packets plan.slots past)) c.in-Position.ensures.change.0
    c.mark.ensures.has c.in-Position.ensures.change.2)

pub returns-in-Contacts-clause-after : goal.returns-in-Contacts-clause-after
returns-in-Contacts-clause-after c = λ plan past h.
    let other : is_report c.args.event.now ≡ false = sym c.is_report.ensures ∙ c.if-is_report.false in
    no_packet_stands plan past c.args.event.now c.args.self.now c.write.new.self c.args.self.now.written true other h
    (c.write.ensures.state past h.slots_stand) (c.write.ensures.slots ∙ h.slots_are) (λ a. absurd (cc))
