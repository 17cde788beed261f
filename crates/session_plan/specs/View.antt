-- The plan as the program keeps it, seen as lists and numbers.
use Rattle.std.specs.Prelude.{map, string_bytes}
use Rattle.session_plan.specs.declared.plan.ChannelPlan.{ChannelPlan}
use Rattle.session_plan.specs.declared.plan.DevicePlan.{DevicePlan}
use Rattle.session_plan.specs.declared.plan.Plan.{Plan}
use Rattle.session_plan.specs.Plan.{DeviceData, ChannelData, PlanData}

-- a device with the bytes of its path
abbrev pub device_view : DevicePlan → DeviceData
device_view d = record { path = string_bytes d.path; kind = d.kind }

-- a channel with the bytes of its name
abbrev pub channel_view : ChannelPlan → ChannelData
channel_view c = record { name = string_bytes c.name; limit = c.limit; finish_after = c.finish_after; finishes = c.finishes }

-- a plan with lists for its vectors
abbrev pub plan_view : Plan → PlanData
plan_view p = record {
  displays = p.displays.items;
  devices = map device_view p.devices.items;
  channels = map channel_view p.channels.items;
  steps = p.steps.items;
  end = p.end;
  repeats = p.repeats;
}
