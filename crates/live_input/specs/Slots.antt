-- The slots of a panel that is driven finger by finger.
use Rattle.std.specs.Prelude.{ℕ, ℤ, ◌-◌, Bool, false, not, is_some, nat_lt, List, replicate, slice_index_or, slice_set, Option, Some, None, Result, Ok, Err, if◌then◌else◌}
use Rattle.std.specs.List.{position}
use Rattle.std.specs.Ordering.{int_eq}
use Rattle.live_input.specs.declared.slots.Fingers.{Fingers}
use Rattle.live_input.specs.declared.refused.FingerRefused.{FingerRefused}
use Rattle.live_input.specs.declared.refused.FingerRefused.TheVariants.{IsDown, NotDown, TooMany}

-- a panel with so many slots, on which no finger is down
abbrev pub none_down : ℕ → Fingers
none_down usable = record { slots = replicate 16 None; usable = usable; count = 0 }

-- the fingers of a device; devices have the numbers from 1
abbrev pub fingers_of : List Fingers → ℕ → Fingers
fingers_of all d = slice_index_or all (d - 1) (none_down 0)

-- the finger with this touch id is in the slot
abbrev pub has_finger : ℤ → Option ℤ → Bool
has_finger id None = false
has_finger id (Some other) = int_eq other id

-- the slot in which the finger with this touch id is
abbrev pub slot_with : ℤ → Fingers → Option ℕ
slot_with id f = position (has_finger id) f.slots

-- a slot, if the panel has it
abbrev pub within : ℕ → Option ℕ → Option ℕ
within usable None = None
within usable (Some s) = if nat_lt s usable then Some s else None

-- the first slot of the panel in which no finger is
abbrev pub first_free : Fingers → Option ℕ
first_free f = within f.usable (position (λ s. not (is_some s)) f.slots)

-- the slot for a finger that goes down: the first free one, unless a finger with its touch id is down
abbrev pub slot_for : Option ℕ → Option ℕ → Result ℕ FingerRefused
slot_for (Some s) free = Err IsDown
slot_for None None = Err TooMany
slot_for None (Some s) = Ok s

-- the slot of a finger that is down
abbrev pub slot_of : Option ℕ → Result ℕ FingerRefused
slot_of None = Err NotDown
slot_of (Some s) = Ok s

-- a finger is in the slot, or none is
abbrev pub with_slot : Fingers → ℕ → Option ℤ → Fingers
with_slot f s finger = record f { slots = slice_set f.slots s finger }
