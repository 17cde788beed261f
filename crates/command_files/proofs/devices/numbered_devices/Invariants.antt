use Rattle.std.proofs.Common.{◌≡◌, ◌+◌, ◌++◌, map, drop}
use Rattle.raw_events.specs.Line.{known}
use Rattle.session_plan.specs.View.{device_view}
use Rattle.command_files.specs.Devices.{numbered_from}
use Rattle.command_files.proofs.devices.numbered_devices.Given as goal

-- the devices so far, and then those that are left, are all
abbrev pub invariant-loop-place : goal.invariant-loop-place
invariant-loop-place l =
    known l.devices.items ++ numbered_from (l.place + 1) (map device_view (drop l.place l.plan.devices.items))
    ≡ numbered_from 1 (map device_view l.plan.devices.items)
