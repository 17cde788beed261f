-- A slot is pushed exactly where it holds a contact.
use Rattle.std.specs.Prelude.{◌≡◌, ◌&&◌, not, pos, int_le, true, false}
use Rattle.std.proofs.Common.{arith, sym, ◌∙◌, ap, add-one}
use Rattle.device_reader.specs.SlotAccumulator.Contacts.{has_tracking}
use Rattle.device_reader.specs.SlotAccumulator.SlotValues.{row}
use Rattle.device_reader.specs.SlotAccumulator.Table.{is_kept}
use Rattle.device_reader.specs.SlotAccumulator.SlotContacts.{is_palm, row_in}
use Rattle.device_reader.proofs.SlotAccumulator.Listing.{few, step_joins, step, contacts_same}
use Rattle.device_reader.proofs.slot_accumulator.slots.Slots.contacts.Goals.{then-is_contact, else-is_contact}
use Rattle.device_reader.proofs.slot_accumulator.slots.Slots.contacts.Goals as goal

pub push-requires-clause-room : goal.push-requires-clause-room
push-requires-clause-room c =
    rw c.loop-slot.invariant (omega (arith, few (row_in c.self.inside.rows) (λ t. is_kept c.self.inside.palms t) c.loop-slot.slot, c.self.invariant.0.within))

pub push-requires-clause-joins : goal.push-requires-clause-joins
push-requires-clause-joins c =
    rw (c.contact.ensures, c.from.ensures)
    (step_joins (row_in c.self.inside.rows) (λ t. is_kept c.self.inside.palms t) c.loop-slot.slot c.loop-slot.contacts c.loop-slot.invariant
    (ap (λ i. int_le (pos 0) (row_in c.self.inside.rows i).tracking && not (has_tracking (row_in c.self.inside.rows i).tracking c.loop-slot.contacts)) (sym c.from.ensures)
    ∙ ap (λ xs. int_le (pos 0) (row_in c.self.inside.rows c.from.result).tracking && not (has_tracking (row_in c.self.inside.rows c.from.result).tracking xs)) (sym c.as_slice.ensures.value)
    ∙ sym c.is_contact.ensures
    ∙ c.if-is_contact.true))

pub loop-slot-preserved : goal.loop-slot-preserved
loop-slot-preserved c =
    let test : c.is_contact.result ≡ (int_le (pos 0) (row_in c.self.inside.rows c.loop-slot.slot).tracking && not (has_tracking (row_in c.self.inside.rows c.loop-slot.slot).tracking c.loop-slot.contacts)) =
    c.is_contact.ensures
    ∙ ap (λ xs. int_le (pos 0) (row_in c.self.inside.rows c.from.result).tracking && not (has_tracking (row_in c.self.inside.rows c.from.result).tracking xs)) c.as_slice.ensures.value
    ∙ ap (λ i. int_le (pos 0) (row_in c.self.inside.rows i).tracking && not (has_tracking (row_in c.self.inside.rows i).tracking c.loop-slot.contacts)) c.from.ensures in
    elim c.if-is_contact.branch [
      | then-is_contact w ↦
          rw (w.contacts-is, w.push.ensures, w.contact.ensures, c.from.ensures, add-one c.loop-slot.slot)
          (step (row_in c.self.inside.rows) (λ t. is_kept c.self.inside.palms t) c.loop-slot.slot c.loop-slot.contacts c.loop-slot.invariant true (sym w.if-is_contact.true ∙ test))
      | else-is_contact w ↦
          rw (w.contacts-is, add-one c.loop-slot.slot)
          (step (row_in c.self.inside.rows) (λ t. is_kept c.self.inside.palms t) c.loop-slot.slot c.loop-slot.contacts c.loop-slot.invariant false (sym w.if-is_contact.false ∙ test))
    ]

pub returns-clause-events : goal.returns-clause-events
returns-clause-events c = λ past h.
    let last : c.loop-slot.slot ≡ c.self.inside.slots = omega arith in
    rw (c.loop-slot.invariant, last, ← c.self.view_is)
    (contacts_same (row_in c.self.inside.rows) (λ s. row s past) (λ t. is_kept c.self.inside.palms t) (λ t. is_palm c.self.inside.slots past t) c.self.inside.slots
    (λ s lt. rw (← c.self.view_is) at (h.rows_are s (omega (arith, lt, c.self.invariant.0.within))))
    (λ t. rw (← c.self.view_is) at (h.palms_are t)))
