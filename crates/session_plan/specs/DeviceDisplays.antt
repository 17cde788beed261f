-- Which display each device is on.
use Rattle.std.specs.Prelude.{ℕ, ◌-◌, List, ◌++◌, length, map, replicate}
use Rattle.session_plan.specs.declared.plan.DeviceKind.{DeviceKind}
use Rattle.session_plan.specs.declared.plan.DeviceKind.TheVariants.{Touch, Keys}
use Rattle.session_plan.specs.Plan.{DeviceData}

-- a touch device is on its display, and one with keys on display 0
abbrev pub kind_display : DeviceKind → ℕ
kind_display (Touch slots x y display) = display
kind_display (Keys layout) = 0

-- the displays of the devices 1 to 8; numbers that no device has are on display 0
abbrev pub device_displays : List DeviceData → List ℕ
device_displays devices = map (λ d. kind_display d.kind) devices ++ replicate (8 - length devices) 0
