-- Devices that are plugged in.
use Rattle.std.specs.Prelude.{ℕ, Bool, nat_le, ◌&&◌, [], Some, None, Result, Ok, Err}
use Rattle.device_reader.specs.Cooked.{DevicePlan}
use Rattle.device_table.specs.Table.{IsFirstFree, StandsAt}
use Rattle.live_input.specs.declared.refused.AddRefused.{AddRefused}
use Rattle.live_input.specs.declared.refused.AddRefused.TheVariants.{TooMany, BadSlots}
use Rattle.live_input.specs.State.{LiveState}

-- a touch device can have this many slots
abbrev pub is_slots : ℕ → Bool
is_slots n = nat_le 1 n && nat_le n 16

-- The device gets the lowest free number of its display, and starts as its plan says. It is refused if no number is
-- free.
abbrev pub Adds : (plan : ℕ → DevicePlan) → (display : ℕ) → Result ℕ AddRefused → (old new : LiveState) → Type 0
Adds plan y (Ok d) old new = IsFirstFree old.dispatcher.displays old.devices y (Some d) × StandsAt (plan d) [] d new.devices
Adds plan y (Err TooMany) old new = IsFirstFree old.dispatcher.displays old.devices y None
Adds plan y (Err BadSlots) old new = ⊥
