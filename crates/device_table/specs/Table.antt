-- The readers of the devices that are plugged in.
use Rattle.std.specs.Prelude.{ℕ, ◌≡◌, ◌-◌, ◌≤◌, ◌<◌, ◌==◌, ◌&&◌, Bool, true, false, not, is_some, List, length, slice_index_or, Option, Some, None}
use Rattle.input_types.specs.Displays.{device_display}
use Rattle.raw_events.specs.declared.event.RawEvent.{RawEvent}
use Rattle.device_reader.specs.Cooked.{DevicePlan, DeviceStandsFor}
use Rattle.device_reader.specs.Reading.{Reading}

-- the reader of a device, where it is plugged in; devices have the numbers from 1
abbrev pub reader_of : List (Option Reading) → ℕ → Option Reading
reader_of readers d = slice_index_or readers (d - 1) None

-- there are eight places, and the reader at each is of the device with its number
pub record AreNumbered (readers : List (Option Reading)) : Type 0 where
  pub eight : length readers ≡ 8
  pub numbers : (d : ℕ) (r : Reading) → 1 ≤ d → reader_of readers d ≡ Some r → r.device ≡ d

-- a device is plugged in
abbrev pub is_there : List (Option Reading) → ℕ → Bool
is_there readers d = is_some (reader_of readers d)

-- a number is one of the display, and no device has it
abbrev pub is_free : List ℕ → List (Option Reading) → (display device : ℕ) → Bool
is_free displays readers y d = device_display displays d == y && not (is_there readers d)

-- it is the least one that is free; it is None where no number is
abbrev pub IsFirstFree : List ℕ → List (Option Reading) → (display : ℕ) → Option ℕ → Type 0
IsFirstFree displays readers y None = (d : ℕ) → 1 ≤ d → d ≤ 8 → is_free displays readers y d ≡ false
IsFirstFree displays readers y (Some d) =
    (1 ≤ d) × (d ≤ 8) × (is_free displays readers y d ≡ true)
    × ((lower : ℕ) → 1 ≤ lower → lower < d → is_free displays readers y lower ≡ false)

-- The reader of a device, which is what its plan says, is where it has to be after these events, the newest first.
pub record StandsAt (plan : DevicePlan) (past : List RawEvent) (device : ℕ) (readers : List (Option Reading)) : Type 0 where
  pub reader : Reading
  pub there : reader_of readers device ≡ Some reader
  pub stands : DeviceStandsFor plan past reader
