-- All that devices give keeps the rule for devices.
use Rattle.std.specs.Prelude.{◌≡◌, ℕ, false, List, [], map, Some, is_some, IsTrue}
use Rattle.raw_events.specs.declared.event.RawEvent.{RawEvent}
use Rattle.input_types.specs.declared.pointer.Pointer.{Pointer}
use Rattle.input_types.specs.declared.message.Args.{Args}
use Rattle.input_types.specs.Gestures.{ids_of}
use Rattle.input_types.specs.DeviceRule.{DeviceState, device_state}
use Rattle.key_mapper.specs.Key.{KeyEvent, is_down}
use Rattle.device_reader.specs.Packets.{since_drop, key_events}
use Rattle.device_reader.specs.Cooked.{DevicePlan, Touches, Keys, number_of, pointers_at, device_args}
use Rattle.device_reader.specs.CookedList.{cooked}

-- these pointers are down on a device, and no key
abbrev pub only : List Pointer → DeviceState
only ps = record { ids = ids_of ps; keys = λ _. false }

-- the keys that are down after these key events are down on a device, and no pointer
abbrev pub only_keys : List KeyEvent → DeviceState
only_keys ks = record { ids = []; keys = λ scan. is_down scan ks }

-- what is down on a device after some events without a drop: the pointers of its last packet, or its keys whose last
-- press has no release behind it
abbrev pub down_at : DevicePlan → List RawEvent → DeviceState
down_at (Touches plan) past = only (pointers_at plan past)
down_at (Keys plan) past = only_keys (key_events past)

-- What a device gives keeps the rule for devices, and what is down by that rule is what is down after its events since
-- the last drop.
abbrev pub KeepsRule : DevicePlan → List RawEvent → Type 0
KeepsRule plan past = device_state (number_of plan) (device_args plan past) ≡ Some (down_at plan (since_drop past))

-- All that the devices of a recording give keeps the rule for each device: no args might not come when they come.
abbrev pub AllKeepRule : List DevicePlan → List RawEvent → Type 0
AllKeepRule plans past = (d : ℕ) → IsTrue (is_some (device_state d (map (λ (g : ℕ × Args). g.1) (cooked plans past))))
