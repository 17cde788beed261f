use Rattle.std.proofs.Common.{◌≡◌, map, drop, bytes_eq}
use Rattle.std.specs.List.{list_any}
use Rattle.session_plan.specs.View.{device_view}
use Rattle.session_plan.proofs.device.is_new.Given as goal

-- the answer is that of the devices that are left
abbrev pub invariant-loop-device : goal.invariant-loop-device
invariant-loop-device l =
    list_any (λ d. bytes_eq d.path l.path) (map device_view (drop l.device-index l.devices)) ≡ list_any (λ d. bytes_eq d.path l.path) (map device_view l.devices)
