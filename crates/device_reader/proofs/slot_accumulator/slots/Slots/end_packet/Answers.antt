-- A SYN_REPORT notes the palms.
use Rattle.std.specs.Prelude.{◌≡◌, ◌∷◌, ◌&&◌, Bool, true, false, not, nat_eq, length, take}
use Rattle.std.proofs.Common.{arith, sym, ◌∙◌, ap, subst}
use Rattle.device_reader.specs.SlotAccumulator.Table.{Table, is_kept}
use Rattle.device_reader.specs.SlotAccumulator.SlotContacts.{SlotsStandFor, contacts_at, palm_below, row_in}
use Rattle.std.proofs.Common.{refl}
use Rattle.std.proofs.lemmas.Bool.{eqb-true}
use Rattle.device_reader.proofs.SlotAccumulator.Listing.{and_first, none_kept, palms_noted, report_current, report_rows}
use Rattle.device_reader.proofs.SlotAccumulator.Moving.{contacts_stand}
use Rattle.device_reader.proofs.slot_accumulator.slots.Slots.end_packet.Goals as goal

pub returns-clause-state : goal.returns-clause-state
returns-clause-state c = λ past e ends h.
    let before : SlotsStandFor past (record { slots = c.self.inside.slots; current = c.self.inside.current; rows = c.self.inside.rows; palms = c.self.inside.palms }) =
    subst (λ (t : Table). SlotsStandFor past t) (sym c.self.view_is) h in
    record {
      current_is = before.current_is ∙ sym (report_current past e ends);
      rows_are = λ s lt. before.rows_are s lt ∙ sym (report_rows past e s ends);
      palms_are = λ t. c.note_palms.ensures.noted t
          ∙ ap (λ xs. palm_below (row_in xs) (λ i. is_kept c.self.inside.palms i) (length xs) t)
          (c.split_at.ensures.front ∙ ap (λ n. take n c.self.inside.rows) c.from.ensures)
          ∙ palms_noted c.self.inside.rows (λ i. is_kept c.self.inside.palms i) c.self.inside.slots past e t ends
          (omega (arith, c.self.invariant.0.within, c.self.invariant.0.whole))
          (λ s lt. before.rows_are s (omega (arith, lt, c.self.invariant.0.within))) before.palms_are;
    }

so : (b : Bool) → not b ≡ false → b ≡ true
so true h = refl
so false h = absurd (cc)

pub returns-clause-none : goal.returns-clause-none
returns-clause-none c = λ none t.
    let both : (nat_eq (length c.self.inside.palms) 0 && not c.self.inside.palm_tool) ≡ true = sym c.no_palm-none.ensures ∙ so c.no_palm-none.result none in
    ap (λ ps. is_kept ps t) (c.note_palms.ensures.same both)
    ∙ none_kept c.self.inside.palms t (eqb-true (length c.self.inside.palms) 0 (and_first (nat_eq (length c.self.inside.palms) 0) (not c.self.inside.palm_tool) both))

pub returns-clause-contacts : goal.returns-clause-contacts
returns-clause-contacts c = λ past e ends h.
    let now : Table = record { slots = c.self.inside.slots; current = c.self.inside.current; rows = c.self.inside.rows; palms = c.note_palms.new.noted } in
    contacts_stand now (e ∷ past) c.self.invariant.0.within (returns-clause-state c past e ends h) ∙ ap (λ (t : Table). contacts_at t.slots (e ∷ past)) c.self.view_is
