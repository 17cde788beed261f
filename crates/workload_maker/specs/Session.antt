-- The session of a workload.
use Rattle.std.specs.Prelude.{ℕ, ℤ, pos, codes, true, List, [], ◌∷◌, Some}
use Rattle.input_types.specs.declared.axis.Rotation.TheVariants.{R0}
use Rattle.key_repeat.specs.Due.{android_delays}
use Rattle.session_plan.specs.declared.plan.Act.TheVariants.{Windows}
use Rattle.session_plan.specs.declared.plan.DeviceKind.TheVariants.{Touch}
use Rattle.session_plan.specs.declared.plan.Display.{Display}
use Rattle.session_plan.specs.declared.plan.Step.{Step}
use Rattle.session_plan.specs.Plan.{ChannelData, DeviceData, PlanData}
use Rattle.touch_region.specs.declared.rectangle.Rect.{Rect}
use Rattle.window_snapshot.specs.declared.occlusion.Occlusion.TheVariants.{Block}
use Rattle.window_snapshot.specs.declared.window.Window.{Window}

-- the window of a channel that is touched in its whole frame, with these bits for its flags
abbrev pub window : ℕ → ℕ → Rect → Window
window channel bits frame = record { channel = channel; display = 0; frame = frame; region = frame ∷ []; flags = record { bits = bits }; owner = 0; opacity = 100; occlusion = Block }

-- the rectangle with these edges: left, top, right, bottom
abbrev pub frame : ℕ → ℕ → ℕ → ℕ → Rect
frame left top right bottom = record { left = pos left; top = pos top; right = pos right; bottom = pos bottom }

-- the windows, front to back: a spy, whose flag has the bit 16, over the upper half, and a window over each quarter
abbrev pub windows : List Window
windows =
    window 5 16 (frame 0 0 1080 1200)
    ∷ window 1 0 (frame 0 0 540 1200)
    ∷ window 2 0 (frame 540 0 1080 1200)
    ∷ window 3 0 (frame 0 1200 540 2400)
    ∷ window 4 0 (frame 540 1200 1080 2400)
    ∷ []

-- a channel that finishes each message at once, and may leave one unfinished for five seconds
abbrev pub channel : List ℕ → ChannelData
channel name = record { name = name; limit = 5000000; finish_after = 0; finishes = true }

-- the display of 1080 by 2400 pixels
abbrev pub displays : List Display
displays = record { width = 1080; height = 2400; rotation = R0 } ∷ []

-- the touch device, which has 16 slots, and a raw unit for each pixel
abbrev pub touch_device : DeviceData
touch_device = record {
  path = codes "/dev/input/event0";
  kind = Touch 16 (record { min = pos 0; max = pos 1079 }) (record { min = pos 0; max = pos 2399 }) 0;
}

-- the channels, from channel 1 on
abbrev pub channels : List ChannelData
channels = channel (codes "nw") ∷ channel (codes "ne") ∷ channel (codes "sw") ∷ channel (codes "se") ∷ channel (codes "spy") ∷ []

-- the one step: the windows are there from moment 0 on
abbrev pub steps : List Step
steps = record { at = 0; lane = 1; act = Windows windows } ∷ []

-- the session, which ends with its last event and repeats held keys as Android does
abbrev pub session : PlanData
session = record { displays = displays; devices = touch_device ∷ []; channels = channels; steps = steps; end = 0; repeats = Some android_delays }
