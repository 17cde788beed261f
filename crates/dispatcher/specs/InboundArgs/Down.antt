-- What is down on each device, and what args make of it.
use Rattle.std.specs.Prelude.{◌≡◌, ◌≤◌, ◌-◌, nat_eq, ℕ, Bool, false, List, [], length, slice_index_or, Option, Some, None, Result, Ok, Err, if◌then◌else◌}
use Rattle.bits32.specs.Set.{members}
use Rattle.input_types.specs.declared.message.Args.{Args}
use Rattle.input_types.specs.declared.message.Args.TheVariants.{Key as KeyArgs}
use Rattle.input_types.specs.declared.motion.Motion.{Motion}
use Rattle.input_types.specs.Gestures.{after_motion}
use Rattle.input_types.specs.DeviceRule.{DeviceState, is_of_device, nothing_down, with_key, after_args, device_of, device_state}
use Rattle.dispatcher.specs.declared.inbound.change.Change.{Change}
use Rattle.dispatcher.specs.declared.inbound.change.Becomes.{Becomes}
use Rattle.dispatcher.specs.declared.inbound.change.Becomes.TheVariants.{Pointers, Key, Nothing}
use Rattle.dispatcher.specs.declared.inbound.change.Inconsistent.{Inconsistent}
use Rattle.dispatcher.specs.InboundArgs.Kept.{DownSets}
use Rattle.dispatcher.specs.InboundArgs.Keys.{has_key}

-- what is down on a device, from what is kept of it
abbrev pub state_of : DownSets → DeviceState
state_of k = record { ids = members k.ids; keys = has_key k.keys }

-- what is kept of a device of which nothing came
abbrev pub untouched : DownSets
untouched = record { ids = 0; keys = [] }

-- what is kept of the device with a number from 1 on
abbrev pub kept_at : List DownSets → ℕ → DownSets
kept_at ks d = slice_index_or ks (d - 1) untouched

-- what is down on the device with a number from 1 on
abbrev pub state_at : List DownSets → ℕ → DeviceState
state_at ks d = state_of (kept_at ks d)

-- the ids that are down after a motion of the device itself
abbrev pub own_after : List ℕ → Motion → Option (List ℕ)
own_after ids m = if is_of_device m.action (length m.pointers) then after_motion ids m else None

-- the args are of a key that is down on their device
abbrev pub is_key_down : DeviceState → Args → Bool
is_key_down s (KeyArgs k) = s.keys k.scan
is_key_down s args = false

-- what is down on a device after a change
abbrev pub changed : Becomes → DeviceState → DeviceState
changed (Pointers ids) s = record { ids = members ids; keys = s.keys }
changed (Key scan down) s = record { ids = s.ids; keys = with_key s.keys scan down }
changed Nothing s = nothing_down

-- Args that may come are the change of what is down; for args that may not come it says what is down instead.
abbrev pub Plans : DeviceState → Args → Result Becomes Inconsistent → Type 0
Plans s args (Ok becomes) = after_args s args ≡ Some (changed becomes s)
Plans s args (Err e) = (after_args s args ≡ None) × (members e.pointers ≡ s.ids) × (e.key_down ≡ is_key_down s args)

-- the same of all devices
abbrev pub PlansAt : List DownSets → Args → Result Change Inconsistent → Type 0
PlansAt ks args (Ok c) = (c.device ≡ device_of args) × Plans (state_at ks (device_of args)) args (Ok c.becomes)
PlansAt ks args (Err e) = Plans (state_at ks (device_of args)) args (Err e)

-- one device changes, and what is down on the others stays
abbrev pub Changes : Change → List DownSets → List DownSets → Type 0
Changes c old new = (d : ℕ) → 1 ≤ d → state_at new d ≡ (if nat_eq d c.device then changed c.becomes (state_at old d) else state_at old d)

-- what is kept says what is down on each device after a list of args, the newest first, each of which might come when it came
abbrev pub DevicesStandFor : List Args → List DownSets → Type 0
DevicesStandFor past ks = (d : ℕ) → 1 ≤ d → d ≤ 8 → device_state d past ≡ Some (state_at ks d)
