-- The contacts that slots hold, and which of them are palms. Events stand with the newest first.
use Rattle.std.specs.Prelude.{◌≡◌, ℕ, zero, suc, ◌<◌, Bool, false, not, ◌&&◌, ◌||◌, ℤ, pos, List, [], ◌∷◌, ◌++◌, get_or, if◌then◌else◌, int_le}
use Rattle.std.specs.Ordering.{int_eq}
use Rattle.raw_events.specs.declared.event.RawEvent.{RawEvent}
use Rattle.device_reader.specs.declared.slot_accumulator.contacts.Contact.{Contact}
use Rattle.device_reader.specs.declared.slot_accumulator.slots.Row.{Row}
use Rattle.device_reader.specs.SlotAccumulator.Table.{Table, is_kept}
use Rattle.device_reader.specs.SlotAccumulator.SlotValues.{current, row}
use Rattle.raw_events.specs.Packets.{is_report}

-- a slot below `n` has this tracking id
abbrev pub lower_has : (ℕ → Row) → ℕ → ℤ → Bool
lower_has rows zero tracking = false
lower_has rows (suc s) tracking = lower_has rows s tracking || int_eq (rows s).tracking tracking

-- slot `s` holds a contact: its tracking id is not negative, and is that of no lower slot
abbrev pub holds : (ℕ → Row) → ℕ → Bool
holds rows s = int_le (pos 0) (rows s).tracking && not (lower_has rows s (rows s).tracking)

-- a slot's tool type is MT_TOOL_PALM
abbrev pub has_palm_tool : Row → Bool
has_palm_tool r = int_eq r.tool (pos 2)

-- slot `s` holds the contact of this tracking id, and it is a palm by its tool type or was one before
abbrev pub holds_palm : (ℕ → Row) → (ℤ → Bool) → ℕ → ℤ → Bool
holds_palm rows before s tracking = (holds rows s && int_eq (rows s).tracking tracking) && (has_palm_tool (rows s) || before tracking)

-- a slot below `n` holds a palm of this tracking id
abbrev pub palm_below : (ℕ → Row) → (ℤ → Bool) → ℕ → ℤ → Bool
palm_below rows before zero tracking = false
palm_below rows before (suc s) tracking = palm_below rows before s tracking || holds_palm rows before s tracking

-- At the end of the last packet the contact of this tracking id is a palm: its slot has the tool type of a palm there,
-- or had it at the end of an earlier packet and the tracking id was that of a contact at the end of each packet since.
abbrev pub is_palm : ℕ → List RawEvent → ℤ → Bool
is_palm slots [] tracking = false
is_palm slots (e ∷ past) tracking =
    if is_report e then palm_below (λ s. row s past) (λ t. is_palm slots past t) slots tracking else is_palm slots past tracking

-- the contact that slot `s` holds
abbrev pub contact : (ℤ → Bool) → ℕ → Row → Contact
contact palms s r = record { slot = s; tracking = r.tracking; x = r.x; y = r.y; palm = palms r.tracking }

-- the contacts in the slots below `n`, in rising slot
abbrev pub contacts_of : (ℕ → Row) → (ℤ → Bool) → ℕ → List Contact
contacts_of rows palms zero = []
contacts_of rows palms (suc s) =
    if holds rows s then contacts_of rows palms s ++ contact palms s (rows s) ∷ [] else contacts_of rows palms s

-- The contacts of a device of so many slots after its events. Where the newest of them is a SYN_REPORT, they are those
-- at the end of its packet.
abbrev pub contacts_at : ℕ → List RawEvent → List Contact
contacts_at slots past = contacts_of (λ s. row s past) (λ t. is_palm slots past t) slots

-- what is read of a slot that a table does not have
abbrev pub no_row : Row
no_row = record { tracking = pos 0; x = pos 0; y = pos 0; tool = pos 0 }

-- a slot of a table
abbrev pub row_in : List Row → ℕ → Row
row_in rows s = get_or rows s no_row

-- the contacts that a table holds, in rising slot
abbrev pub contacts_in : Table → List Contact
contacts_in t = contacts_of (row_in t.rows) (λ i. is_kept t.palms i) t.slots

-- a table says of each of its 16 slots what these events have written to it, and which tracking ids are those of palms
pub record SlotsStandFor (past : List RawEvent) (t : Table) : Type 0 where
  pub current_is : t.current ≡ current past
  pub rows_are : (s : ℕ) → s < 16 → row_in t.rows s ≡ row s past
  pub palms_are : (tracking : ℤ) → is_kept t.palms tracking ≡ is_palm t.slots past tracking
