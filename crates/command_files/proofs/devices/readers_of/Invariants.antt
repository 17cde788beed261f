use Rattle.std.proofs.Common.{map, take, []}
use Rattle.session_plan.specs.View.{device_view}
use Rattle.device_reader.specs.All.{AreNumbered}
use Rattle.device_reader.specs.CookedList.{AllStandFor}
use Rattle.command_files.specs.Cooked.{device_plans}
use Rattle.command_files.proofs.devices.readers_of.Given as goal

-- the readers so far are those of the devices so far
abbrev pub invariant-loop-place : goal.invariant-loop-place
invariant-loop-place l =
    record {
      stand : AllStandFor (device_plans l.plan.displays.items 1 (map device_view (take l.place l.plan.devices.items))) [] l.readers.items;
      numbered : AreNumbered l.readers.items;
    }
