use Rattle.std.proofs.Common.{map, take, []}
use Rattle.session_plan.specs.View.{device_view}
use Rattle.recording_counts.specs.Devices.{AllCounted}
use Rattle.command_files.specs.Cooked.{device_plans}
use Rattle.command_files.proofs.counting.tallies_of.Given as goal

-- the counts so far are those of the devices so far
abbrev pub invariant-loop-device : goal.invariant-loop-device
invariant-loop-device l = AllCounted (device_plans l.plan.displays.items 1 (map device_view (take l.device-index l.plan.devices.items))) [] l.tallies.items
