use Rattle.std.proofs.Common.{◌≡◌}
use Rattle.device_reader.specs.SlotAccumulator.Table.{is_kept}
use Rattle.device_reader.specs.SlotAccumulator.SlotContacts.{contacts_of, row_in}
use Rattle.device_reader.proofs.slot_accumulator.slots.Slots.contacts.Given as goal

-- the contacts of the slots so far
abbrev pub invariant-loop-slot : goal.invariant-loop-slot
invariant-loop-slot l = l.contacts ≡ contacts_of (row_in l.self-inside.rows) (λ t. is_kept l.self-inside.palms t) l.slot
