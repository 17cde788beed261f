-- The slots of fingers, and where fingers are after something was written to their slots.
use Rattle.std.specs.Prelude.{◌≡◌, ℕ, Bool, ◌&&◌, nat_eq, nat_lt, List, [], ◌∷◌, if◌then◌else◌}
use Rattle.bits32.specs.Set.{is_in}
use Rattle.device_reader.specs.declared.slot_accumulator.contacts.Contact.{Contact}
use Rattle.device_reader.specs.declared.slot_accumulator.slots.Row.{Row}
use Rattle.device_reader.specs.declared.pointer_ids.named.Named.{Named}
use Rattle.device_reader.specs.declared.pointer_ids.assigned.Held.{Held}

-- the slot of the finger with an id, where the contact of each finger is at its place
abbrev pub slot_of : ℕ → List Named → List Contact → ℕ
slot_of i [] cs = 0
slot_of i (n ∷ ns) [] = 0
slot_of i (n ∷ ns) (c ∷ cs) = if nat_eq n.id i then c.slot else slot_of i ns cs

-- a slot is one of the 16 that a device can have, and one of those that were written
abbrev pub is_written : ℕ → ℕ → Bool
is_written written s = nat_lt s 16 && is_in s written

-- a contact is where its slot says, if that was written, and else where it was
abbrev pub contact_where : (ℕ → Bool) → (ℕ → Row) → Contact → Contact
contact_where written rows c =
    if written c.slot then record { slot = c.slot; tracking = c.tracking; x = (rows c.slot).x; y = (rows c.slot).y; palm = c.palm } else c

-- the pointer of a finger in slot `s` is where that says, if it was written, and else where it was
abbrev pub pointer_where : (ℕ → Bool) → (ℕ → Row) → ℕ → Held → Held
pointer_where written rows s h = if written s then record { id = h.id; x = (rows s).x; y = (rows s).y } else h

-- two lists have the same fingers with the same ids, wherever they are
abbrev pub SameFingers : List Named → List Named → Type 0
SameFingers [] [] = Unit {0}
SameFingers [] (m ∷ ms) = ⊥
SameFingers (n ∷ ns) [] = ⊥
SameFingers (n ∷ ns) (m ∷ ms) = (n.tracking ≡ m.tracking) × (n.id ≡ m.id) × SameFingers ns ms

-- the contacts of the last packet, and none before the first one
abbrev pub last_packet : List (List Contact) → List Contact
last_packet [] = []
last_packet (cs ∷ past) = cs
