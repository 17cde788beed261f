use Rattle.std.proofs.Common.{◌≡◌, ◌+◌, ◌++◌, List, drop}
use Rattle.raw_events.specs.declared.event.RawEvent.{RawEvent}
use Rattle.device_reader.specs.Cooked.{DevicePlan}
use Rattle.recording_counts.specs.Devices.{AllCounted}
use Rattle.inspect_text.specs.CountedHints.{counts_hint}
use Rattle.inspect_text.specs.Inspected.{each_device}
use Rattle.inspect_text.proofs.counted_hints.add_all_counts.Given as goal

-- what is written, with the devices that are left, is all
abbrev pub invariant-loop-place : goal.invariant-loop-place
invariant-loop-place l =
    (plans : List DevicePlan) (past : List RawEvent) → AllCounted plans past l.devices
    → l.text.items ++ each_device counts_hint (l.place + 1) (drop l.place plans) past ≡ l.initial.text.items ++ each_device counts_hint 1 plans past
