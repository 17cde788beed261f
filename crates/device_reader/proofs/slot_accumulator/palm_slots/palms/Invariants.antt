use Rattle.std.specs.Prelude.{◌≡◌, ℤ, ◌≤◌, length}
use Rattle.device_reader.specs.SlotAccumulator.Table.{is_kept}
use Rattle.device_reader.specs.SlotAccumulator.SlotContacts.{palm_below, row_in}
use Rattle.device_reader.proofs.slot_accumulator.palm_slots.palms.Given as goal

-- the palms of the slots so far
abbrev pub invariant-loop-slot : goal.invariant-loop-slot
invariant-loop-slot l = record {
  kept : (t : ℤ) → is_kept l.palms t ≡ palm_below (row_in l.rows) (λ i. is_kept l.before i) l.slot t;
  few : length l.palms ≤ l.slot;
}
