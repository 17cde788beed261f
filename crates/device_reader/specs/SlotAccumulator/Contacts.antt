-- Lists of contacts.
use Rattle.std.specs.Prelude.{ℕ, ◌<◌, ◌≢◌, Bool, false, ℤ, pos, nat_eq, List, [], ◌∷◌, ◌≤ℤ◌, if◌then◌else◌}
use Rattle.std.specs.List.{list_any}
use Rattle.std.specs.Ordering.{int_eq}
use Rattle.device_reader.specs.declared.slot_accumulator.contacts.Contact.{Contact}

-- a contact of the list has this tracking id
abbrev pub has_tracking : ℤ → List Contact → Bool
has_tracking tracking cs = list_any (λ c. int_eq c.tracking tracking) cs

-- one contact is of a lower slot than another, and of another tracking id
abbrev pub IsBefore : Contact → Contact → Type 0
IsBefore c d = (c.slot < d.slot) × (c.tracking ≢ d.tracking)

-- one contact is before each of a list
abbrev pub IsBeforeAll : Contact → List Contact → Type 0
IsBeforeAll c [] = Unit {0}
IsBeforeAll c (d ∷ ds) = IsBefore c d × IsBeforeAll c ds

-- the slots of a list rise, and its tracking ids are not negative and differ
abbrev pub AreContacts : List Contact → Type 0
AreContacts [] = Unit {0}
AreContacts (c ∷ cs) = (pos 0 ≤ℤ c.tracking) × IsBeforeAll c cs × AreContacts cs

-- the contact may come behind the list: its slot is above those of the list, and its tracking id is new and not
-- negative
abbrev pub Joins : List Contact → Contact → Type 0
Joins [] d = pos 0 ≤ℤ d.tracking
Joins (c ∷ cs) d = IsBefore c d × Joins cs d

-- a contact after its slot got a place: another contact stays where it is
abbrev pub put_at : ℕ → ℤ → ℤ → Contact → Contact
put_at slot x y c = record {
  slot = c.slot;
  tracking = c.tracking;
  x = if nat_eq c.slot slot then x else c.x;
  y = if nat_eq c.slot slot then y else c.y;
  palm = c.palm;
}

-- what stands in the places of a list that are not in use
abbrev pub unused : Contact
unused = record { slot = 0; tracking = pos 0; x = pos 0; y = pos 0; palm = false }
