-- What an event that ends no packet changes among the contacts.
use Rattle.std.specs.Prelude.{◌≡◌, ◌≢◌, ℕ, ◌<◌, map}
use Rattle.device_reader.specs.declared.slot_accumulator.change.Change.{Change}
use Rattle.device_reader.specs.declared.slot_accumulator.change.Change.TheVariants.{Nothing, Position, Contacts}
use Rattle.device_reader.specs.SlotAccumulator.Contacts.{put_at}
use Rattle.device_reader.specs.SlotAccumulator.Table.{Table}
use Rattle.device_reader.specs.SlotAccumulator.SlotContacts.{contacts_in, row_in}

-- After a position only the contact of its slot is elsewhere, namely where the slot says. Where a tracking id was
-- written, nothing is said.
abbrev pub Changes : Change → Table → Table → Type 0
Changes Nothing before after = (contacts_in after ≡ contacts_in before) × (after.rows ≡ before.rows)
Changes (Position s) before after =
    (s < 16)
    × (contacts_in after ≡ map (λ c. put_at s (row_in after.rows s).x (row_in after.rows s).y c) (contacts_in before))
    × ((k : ℕ) → k ≢ s → row_in after.rows k ≡ row_in before.rows k)
Changes Contacts before after = Unit {0}
