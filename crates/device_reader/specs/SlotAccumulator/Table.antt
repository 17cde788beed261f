-- What contracts see of the slots of a device.
use Rattle.std.specs.Prelude.{◌≡◌, ℕ, ◌≤◌, ℤ, Bool, List, length}
use Rattle.std.specs.List.{list_any}
use Rattle.std.specs.Ordering.{int_eq}
use Rattle.device_reader.specs.declared.slot_accumulator.slots.Row.{Row}

-- how many slots the device has, the current slot, the rows of 16 slots, and the tracking ids of the palms at the last
-- packet's end
pub record Table : Type 0 where
  pub slots : ℕ
  pub current : ℤ
  pub rows : List Row
  pub palms : List ℤ

-- a table has 1 to 16 slots, and places for 16
pub record IsTable (slots : ℕ) (rows : List Row) : Type 0 where
  pub some : 1 ≤ slots
  pub within : slots ≤ 16
  pub whole : length rows ≡ 16

-- a tracking id is one of those that are kept
abbrev pub is_kept : List ℤ → ℤ → Bool
is_kept palms tracking = list_any (λ t. int_eq t tracking) palms
