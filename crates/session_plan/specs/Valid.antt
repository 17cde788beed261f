-- What holds of every plan.
use Rattle.std.specs.Prelude.{◌≡◌, ◌≤◌, ◌<◌, ◌≤ℤ◌, ℕ, true, length, string_bytes}
use Rattle.std.specs.List.{All}
use Rattle.std.specs.List.Sorted.{IsNonDecreasingBy}
use Rattle.input_types.specs.declared.axis.Axis.{Axis}
use Rattle.session_plan.specs.declared.plan.ChannelPlan.{ChannelPlan}
use Rattle.session_plan.specs.declared.plan.DeviceKind.{DeviceKind}
use Rattle.session_plan.specs.declared.plan.DeviceKind.TheVariants.{Touch, Keys}
use Rattle.session_plan.specs.declared.plan.DevicePlan.{DevicePlan}
use Rattle.session_plan.specs.declared.plan.Display.{Display}
use Rattle.session_plan.specs.declared.plan.Plan.{Plan}
use Rattle.session_plan.specs.declared.plan.Step.{Step}
use Rattle.session_plan.specs.Channels.{is_name}

-- an extent of 1 to 16384 pixels
pub record IsDisplay (d : Display) : Type 0 where
  pub width : (1 ≤ d.width) × (d.width ≤ 16384)
  pub height : (1 ≤ d.height) × (d.height ≤ 16384)

-- the ends of an axis in order
abbrev pub IsAxis : Axis → Type 0
IsAxis a = a.min ≤ℤ a.max

-- 1 to 16 slots, axes with their ends in order, and one of so many displays
abbrev pub IsKind : ℕ → DeviceKind → Type 0
IsKind displays (Touch slots x y display) = (1 ≤ slots) × (slots ≤ 16) × IsAxis x × IsAxis y × (display < displays)
IsKind displays (Keys layout) = Unit {0}

-- a device of a session with so many displays
abbrev pub IsDevice : ℕ → DevicePlan → Type 0
IsDevice displays d = IsKind displays d.kind

-- a channel with a name of its form, which finishes a message at most 10^15 microseconds after its receipt
abbrev pub IsChannel : ChannelPlan → Type 0
IsChannel c = (is_name (string_bytes c.name) ≡ true) × (c.finish_after ≤ 1000000000000000)

-- a lane from 1 to 8
abbrev pub IsStep : Step → Type 0
IsStep s = (1 ≤ s.lane) × (s.lane ≤ 8)

-- 1 to 4 displays, at most 8 devices, each on one of the displays, at most 64 channels, and steps in rising moment
pub record IsPlan (p : Plan) : Type 0 where
  pub some_display : 1 ≤ length p.displays.items
  pub few_displays : length p.displays.items ≤ 4
  pub displays : All IsDisplay p.displays.items
  pub few_devices : length p.devices.items ≤ 8
  pub devices : All (IsDevice (length p.displays.items)) p.devices.items
  pub few_channels : length p.channels.items ≤ 64
  pub channels : All IsChannel p.channels.items
  pub steps : All IsStep p.steps.items
  pub rising : IsNonDecreasingBy (λ s. s.at) p.steps.items
