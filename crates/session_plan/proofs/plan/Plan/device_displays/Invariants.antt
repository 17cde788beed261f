use Rattle.std.proofs.Common.{◌≡◌}
use Rattle.session_plan.proofs.DeviceDisplays.{so_far}
use Rattle.session_plan.proofs.plan.Plan.device_displays.Given as goal

-- the displays of the devices so far, and display 0 for the others
abbrev pub invariant-loop-i : goal.invariant-loop-i
invariant-loop-i l = l.displays ≡ so_far l.self.devices.items l.i
