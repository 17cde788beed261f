use Rattle.std.proofs.Common.{◌≡◌, ◌+◌, ◌++◌, List, drop}
use Rattle.raw_events.specs.declared.event.RawEvent.{RawEvent}
use Rattle.device_reader.specs.Cooked.{DevicePlan}
use Rattle.recording_counts.specs.Devices.{AllCounted}
use Rattle.inspect_text.specs.Inspected.{device_text, each_device}
use Rattle.inspect_text.proofs.devices.add_devices.Given as goal

-- what is written, with the devices that are left, is all
abbrev pub invariant-loop-place : goal.invariant-loop-place
invariant-loop-place l =
    (plans : List DevicePlan) (past : List RawEvent) → AllCounted plans past l.devices
    → l.text.items ++ each_device device_text (l.place + 1) (drop l.place plans) past ≡ l.initial.text.items ++ each_device device_text 1 plans past
