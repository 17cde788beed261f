-- Where no tracking id was written and no contact is a palm, a packet is one Move of the fingers of the packet before.
use Rattle.std.specs.Prelude.{◌≡◌, ℕ, Bool, List, ◌∷◌, ◌++◌, map}
use Rattle.std.proofs.Common.{sym, ◌∙◌, ap, subst}
use Rattle.raw_events.specs.declared.event.RawEvent.{RawEvent}
use Rattle.input_types.specs.declared.message.Args.{Args}
use Rattle.device_reader.specs.declared.slot_accumulator.contacts.Contact.{Contact}
use Rattle.device_reader.specs.declared.slot_accumulator.slots.Row.{Row}
use Rattle.device_reader.specs.SlotAccumulator.Table.{Table}
use Rattle.device_reader.specs.SlotAccumulator.SlotContacts.{contacts_at, contacts_in, row_in}
use Rattle.device_reader.specs.declared.pointer_ids.assigned.Held.{Held}
use Rattle.device_reader.specs.PointerIds.PointerIds.{named_after, assigned}
use Rattle.device_reader.specs.PointerIds.Slots.{slot_of, is_written, contact_where, pointer_where, last_packet}
use Rattle.device_reader.specs.TouchMapper.Cooking.{Cooking}
use Rattle.device_reader.specs.TouchMapper.Gesture.{as_args, move_of, placed_all}
use Rattle.device_reader.specs.TouchMapper.GestureState.{GestureState}
use Rattle.device_reader.specs.Packets.{packets}
use Rattle.device_reader.specs.Cooked.{TouchPlan, TouchStandsFor}
use Rattle.device_reader.proofs.Still.{IsStill, is_still, pointers_now, still_args, packet_still}
use Rattle.device_reader.proofs.touch.Touch.end_packet.Goals as goal

pub returns-then-palms-clause-after : goal.returns-then-palms-clause-after
returns-then-palms-clause-after c = λ plan past h.
    c.next_fingers.ensures.after plan past c.args.event.now c.requires (record {
      slots_stand = c.end_packet-palms.ensures.state past c.args.event.now c.requires h.slots_stand;
      slots_are = c.end_packet-palms.ensures.slots ∙ h.slots_are;
      ids_are = h.packets_stand.ids_are;
      gestures_are = h.packets_stand.gestures_are;
    })

here_still : (c : goal.After-put_move) (plan : TouchPlan) (past : List RawEvent) → TouchStandsFor plan past c.args.self.now
    → IsStill (λ s. is_written c.args.self.now.written s) (row_in c.end_packet-palms.new.self.rows) (packets plan.slots past) (contacts_in c.end_packet-palms.new.self)
here_still c plan past h =
    is_still c.end_packet-palms.new.self (λ s. is_written c.args.self.now.written s) (packets plan.slots past) (c.end_packet-palms.ensures.none c.if-palms.false)
    (subst
    (λ (t : Table). contacts_in t ≡ map (λ (d : Contact). contact_where (λ s. is_written c.args.self.now.written s) (row_in t.rows) d) (last_packet (packets plan.slots past)))
    (sym (c.end_packet-palms.ensures.same c.if-palms.false)) (h.packets_stand.contacts_are c.if-self.false))

here_contacts : (c : goal.After-put_move) (plan : TouchPlan) (past : List RawEvent) → TouchStandsFor plan past c.args.self.now
    → contacts_in c.end_packet-palms.new.self ≡ contacts_at plan.slots (c.args.event.now ∷ past)
here_contacts c plan past h =
    c.end_packet-palms.ensures.contacts past c.args.event.now c.requires h.slots_stand ∙ ap (λ n. contacts_at n (c.args.event.now ∷ past)) h.slots_are

here_moved : (c : goal.After-put_move) (plan : TouchPlan) (past : List RawEvent) → TouchStandsFor plan past c.args.self.now
    → c.move_pointers.new.gestures
    ≡ record { device = plan.device; cook = plan.cook; last = placed_all plan.cook (assigned (named_after (contacts_in c.end_packet-palms.new.self ∷ packets plan.slots past))) }
here_moved c plan past h =
    let before : List (List Contact) = packets plan.slots past in
    let w : ℕ → Bool = λ s. is_written c.args.self.now.written s in
    let rows : ℕ → Row = row_in c.end_packet-palms.new.self.rows in
    let slot : Held → ℕ = λ q. slot_of q.id (named_after before) (last_packet before) in
    let hs : List Held = assigned (named_after before) in
    c.move_pointers.ensures hs slot
    (ap (λ (g : GestureState). g.last) h.packets_stand.gestures_are
    ∙ ap (λ (k : Cooking). placed_all k hs) (sym (ap (λ (g : GestureState). g.cook) h.packets_stand.gestures_are)))
    h.packets_stand.fingers_are
    ∙ ap (λ (g : GestureState). record { device = g.device; cook = g.cook; last = placed_all g.cook (map (λ q. pointer_where w rows (slot q) q) hs) }) h.packets_stand.gestures_are
    ∙ ap (λ (qs : List Held). record { device = plan.device; cook = plan.cook; last = placed_all plan.cook qs })
    (sym (pointers_now w rows before (contacts_in c.end_packet-palms.new.self) (here_still c plan past h)))

pub returns-clause-ok : goal.returns-clause-ok
returns-clause-ok c = λ plan past h.
    let g : GestureState = c.move_pointers.new.gestures in
    c.put_move.ensures
    ∙ ap (λ (xs : List Args). xs ++ as_args (move_of g.device g.last)) c.reserve.ensures.items
    ∙ ap (λ (xs : List Args). c.args.args.now.items ++ xs)
    (still_args plan past c.args.event.now (λ s. is_written c.args.self.now.written s) (row_in c.end_packet-palms.new.self.rows) (contacts_in c.end_packet-palms.new.self) g
    c.requires (here_contacts c plan past h) (here_still c plan past h) (here_moved c plan past h))

pub returns-clause-after : goal.returns-clause-after
returns-clause-after c = λ plan past h.
    subst
    (λ (written : ℕ). TouchStandsFor plan (c.args.event.now ∷ past)
    (record { slots = c.end_packet-palms.new.self; written = written; anew = c.args.self.now.anew; ids = c.args.self.now.ids; fingers = c.args.self.now.fingers; gestures = c.move_pointers.new.gestures }))
    (sym c.empty-self.ensures)
    (packet_still plan past c.args.event.now c.args.self.now c.end_packet-palms.new.self c.move_pointers.new.gestures c.requires h
    (c.end_packet-palms.ensures.state past c.args.event.now c.requires h.slots_stand) (c.end_packet-palms.ensures.slots ∙ h.slots_are)
    (here_contacts c plan past h) (here_still c plan past h) (here_moved c plan past h))
