-- What must be known about the devices of a session to read a recording.
use Rattle.std.specs.Prelude.{ℕ, ◌+◌, List, ◌∷◌, slice_index_or, []}
use Rattle.device_reader.specs.Cooked.{DevicePlan, Touches, Keys as HasKeys}
use Rattle.input_types.specs.declared.axis.Axis.{Axis}
use Rattle.input_types.specs.declared.axis.Rotation.TheVariants.{R0}
use Rattle.session_plan.specs.declared.plan.DeviceKind.{DeviceKind}
use Rattle.session_plan.specs.declared.plan.DeviceKind.TheVariants.{Touch, Keys}
use Rattle.session_plan.specs.declared.plan.Display.{Display}
use Rattle.session_plan.specs.Plan.{DeviceData, PlanData}

-- the display with this number, of those of a session; one pixel if there is none
abbrev pub display_at : List Display → ℕ → Display
display_at displays k = slice_index_or displays k (record { width = 1; height = 1; rotation = R0 })

-- how a touch device with number `k` is read whose positions become pixels of this display
abbrev pub touch_plan : ℕ → ℕ → Axis → Axis → Display → DevicePlan
touch_plan k slots x y on =
    Touches (record { device = k; slots = slots; cook = record { x = x; y = y; width = on.width; height = on.height; rotation = on.rotation } })

-- how a device with number `k` is read, of a session with these displays
abbrev pub device_plan : List Display → ℕ → DeviceKind → DevicePlan
device_plan displays k (Touch slots x y display) = touch_plan k slots x y (display_at displays display)
device_plan displays k (Keys layout) = HasKeys (record { device = k; layout = layout })

-- how each device is read, the first of which has number `k`
abbrev pub device_plans : List Display → ℕ → List DeviceData → List DevicePlan
device_plans displays k [] = []
device_plans displays k (d ∷ ds) = device_plan displays k d.kind ∷ device_plans displays (k + 1) ds

-- how each device of a session is read
abbrev pub plans_of : PlanData → List DevicePlan
plans_of plan = device_plans plan.displays 1 plan.devices
