use Rattle.std.proofs.Common.{◌≡◌, ◌+◌, map, drop, length, []}
use Rattle.toml.specs.View.{view}
use Rattle.session_plan.specs.Devices.{device_of}
use Rattle.session_plan.specs.Reading.{each}
use Rattle.std.specs.List.{All}
use Rattle.session_plan.specs.Valid.{IsDevice}
use Rattle.session_plan.specs.View.{device_view}
use Rattle.session_plan.proofs.device.each_device.Given as goal

-- the devices so far, and then those that are left, are all
abbrev pub invariant-loop-i : goal.invariant-loop-i
invariant-loop-i l = record {
  rest : each (device_of l.displays) (l.i + 1) (map device_view l.devices.items) (map view (drop l.i l.tables)) ≡ each (device_of l.displays) 1 [] (map view l.tables);
  len : length l.devices.items ≡ l.i;
  valid : All (IsDevice l.displays) l.devices.items;
}
