-- Which events of a device its reader looks at.
use Rattle.std.specs.Prelude.{◌≡◌, Bool, List, filter}
use Rattle.raw_events.specs.declared.event.RawEvent.{RawEvent}
use Rattle.device_reader.specs.Cooked.{DevicePlan, Keys, Touches, device_args}
use Rattle.recording_counts.specs.Events.{is_keys_used, is_touch_used}

-- an event is one that counts as used of this device
abbrev pub is_used : DevicePlan → RawEvent → Bool
is_used (Touches plan) e = is_touch_used e
is_used (Keys plan) e = is_keys_used e

-- The args of a device are those of its used events alone.
abbrev pub UsedLaw : Type 0
UsedLaw = (plan : DevicePlan) (events : List RawEvent) → device_args plan (filter (is_used plan) events) ≡ device_args plan events
