-- Parts of sessions, worked out from their tables.
use Rattle.std.specs.Prelude.{ℕ, ◌+◌, ◌≡◌, codes, pos, negsuc, Bool, true, false, List, [], ◌∷◌, Some, None, Result, Ok, Err, refl}
use Rattle.std.specs.Fmt.{digits}
use Rattle.bitflags.specs.Sets.{find_row}
use Rattle.toml.specs.Data.{Data, string, integer, boolean, array, table, no_members, member}
use Rattle.toml.specs.View.{items_of}
use Rattle.input_types.specs.declared.axis.Rotation.TheVariants.{R0, R90}
use Rattle.window_snapshot.specs.declared.occlusion.Occlusion.TheVariants.{Block}
use Rattle.window_snapshot.specs.declared.window.Window.{Window}
use Rattle.session_plan.specs.declared.key.Place.TheVariants.{Device, Step as AtStep, Window as AtWindow}
use Rattle.session_plan.specs.declared.plan.Act.TheVariants.{FocusOn}
use Rattle.session_plan.specs.declared.plan.DeviceKind.TheVariants.{Touch, Keys}
use Rattle.session_plan.specs.declared.plan.Step.{Step}
use Rattle.session_plan.specs.DeviceDisplays.{device_displays}
use Rattle.session_plan.specs.Devices.{axis_at, touch_of}
use Rattle.session_plan.specs.Display.{display_at, display_number, display_of, displays_of, extra_displays_of}
use Rattle.session_plan.specs.ErrorLine.{line_of}
use Rattle.session_plan.specs.Fault.{Fault, missing, wrong, unknown_name, out_of_range}
use Rattle.session_plan.specs.Flags.{bits_at, bits_for, bits_of}
use Rattle.session_plan.specs.Keys.{key_of}
use Rattle.session_plan.specs.Order.{in_order}
use Rattle.session_plan.specs.Plan.{ChannelData}
use Rattle.session_plan.specs.Reading.{number, number_at, number_or, tables, tables_at, text_at}
use Rattle.session_plan.specs.Rectangles.{rect_of, rectangle, region_at}
use Rattle.session_plan.specs.Repeats.{delays_at, delays_of, is_repeated_at, repeats_at}
use Rattle.session_plan.specs.Session.{plan_of}
use Rattle.session_plan.specs.Steps.{act_of, focus_of, step_of, steps_of}
use Rattle.session_plan.specs.Trust.{occlusion_at}
use Rattle.session_plan.specs.Windows.{new_channel, no_channel, wall_at, window_of}

-- width = .. and height = ..
abbrev pub extent : ℕ → ℕ → Data
extent width height = table (member (codes "height") (integer (pos height)) (member (codes "width") (integer (pos width)) no_members))

-- a session with this display and these others
abbrev pub displays : Data → List Data → Data
displays first others = table (member (codes "display") first (member (codes "extra_display") (array (items_of others)) no_members))

pub no_display : plan_of (table no_members) ≡ Err (missing (codes "display"))
unfolding plan_of displays_of display_at key_of
no_display = refl

pub no_width : displays_of (displays (extent 0 2400) []) ≡ Err (out_of_range (codes "display.width") (pos 0))
unfolding displays_of display_at display_of number_at number key_of
no_width = refl

pub no_width_line : line_of (out_of_range (codes "display.width") (pos 0)) ≡ codes "session: OutOfRange display.width 0"
unfolding digits
no_width_line = refl

-- the first display beside display 0 is display 1
pub two_displays
    : displays_of (displays (extent 1080 2400) (table (member (codes "width") (integer (pos 1920)) (member (codes "height") (integer (pos 1080)) (member (codes "rotation") (integer (pos 90)) no_members))) ∷ []))
    ≡ Ok (record { width = 1080; height = 2400; rotation = R0 } ∷ record { width = 1920; height = 1080; rotation = R90 } ∷ [])
unfolding displays_of display_at extra_displays_of display_of tables_at tables number_at number key_of
two_displays = refl

pub flat_display : displays_of (displays (extent 1080 2400) (extent 1920 1080 ∷ extent 1920 0 ∷ [])) ≡ Err (out_of_range (codes "extra_display[2].height") (pos 0))
unfolding displays_of display_at extra_displays_of display_of tables_at tables number_at number key_of digits
flat_display = refl

-- five displays are one too many
pub four_extra_displays : displays_of (displays (extent 1080 2400) (extent 0 0 ∷ extent 0 0 ∷ extent 0 0 ∷ extent 0 0 ∷ [])) ≡ Err (out_of_range (codes "extra_display") (pos 4))
unfolding displays_of display_at extra_displays_of display_of tables_at tables number_at number key_of
four_extra_displays = refl

-- display = ..
abbrev pub on : ℕ → Data
on display = table (member (codes "display") (integer (pos display)) no_members)

-- of one display there is no display 1; of two there is
pub no_such_display : touch_of 1 1 (on 1) ≡ Err (out_of_range (codes "device[1].display") (pos 1))
unfolding touch_of display_number number_or number key_of digits
no_such_display = refl

pub no_such_display_line : line_of (out_of_range (codes "device[1].display") (pos 1)) ≡ codes "session: OutOfRange device[1].display 1"
unfolding digits
no_such_display_line = refl

pub display_1_of_2 : display_number 2 (AtStep 3) (on 1) ≡ Ok 1
unfolding display_number number_or number
display_1_of_2 = refl

-- a table that names no display is on display 0
pub display_0_of_2 : display_number 2 (Device 1) (table no_members) ≡ Ok 0
unfolding display_number number_or
display_0_of_2 = refl

-- device 1 is on display 1, device 2 has keys, device 3 is on display 2
pub three_devices
    : device_displays
    (record { path = codes "/a"; kind = Touch 10 (record { min = pos 0; max = pos 9 }) (record { min = pos 0; max = pos 9 }) 1 }
    ∷ record { path = codes "/b"; kind = Keys [] }
    ∷ record { path = codes "/c"; kind = Touch 10 (record { min = pos 0; max = pos 9 }) (record { min = pos 0; max = pos 9 }) 2 }
    ∷ [])
    ≡ 1 ∷ 0 ∷ 2 ∷ 0 ∷ 0 ∷ 0 ∷ 0 ∷ 0 ∷ []
three_devices = refl

abbrev pub integers : List Data → Data
integers ds = array (items_of ds)

-- x = [5000000000, 4] is malformed, whatever its numbers are
pub reversed_axis : axis_at 1 (codes "x") (table (member (codes "x") (integers (integer (pos 5000000000) ∷ integer (pos 4) ∷ [])) no_members)) ≡ Err (wrong (codes "device[1].x"))
unfolding axis_at key_of digits
reversed_axis = refl

pub long_axis : axis_at 1 (codes "x") (table (member (codes "x") (integers (integer (pos 4) ∷ integer (pos 5000000000) ∷ [])) no_members)) ≡ Err (out_of_range (codes "device[1].x") (pos 5000000000))
unfolding axis_at key_of digits
long_axis = refl

-- repeat_us = ..
abbrev pub held : Data → Data
held delays = table (member (codes "repeat_us") delays no_members)

-- repeat_us = .. of these integers
abbrev pub held_for : List Data → Data
held_for delays = held (integers delays)

-- a session that does not say when held keys are repeated has Android's half a second and twentieth of a second
pub repeats_by_default : repeats_at (table no_members) ≡ Ok (Some (record { first = 500000; next = 50000 }))
unfolding repeats_at delays_at is_repeated_at
repeats_by_default = refl

pub own_delays : repeats_at (held_for (integer (pos 660000) ∷ integer (pos 40000) ∷ [])) ≡ Ok (Some (record { first = 660000; next = 40000 }))
unfolding repeats_at delays_at delays_of is_repeated_at
own_delays = refl

-- the shortest delay and the longest, a millisecond and ten minutes
pub outermost_delays : repeats_at (held_for (integer (pos 1000) ∷ integer (pos 600000000) ∷ [])) ≡ Ok (Some (record { first = 1000; next = 600000000 }))
unfolding repeats_at delays_at delays_of is_repeated_at
outermost_delays = refl

pub delay_too_short : repeats_at (held_for (integer (pos 660000) ∷ integer (pos 999) ∷ [])) ≡ Err (out_of_range (codes "repeat_us") (pos 999))
unfolding repeats_at delays_at delays_of key_of
delay_too_short = refl

-- of two delays out of range the first is named
pub delays_too_long : repeats_at (held_for (integer (pos 600000001) ∷ integer (negsuc 0) ∷ [])) ≡ Err (out_of_range (codes "repeat_us") (pos 600000001))
unfolding repeats_at delays_at delays_of key_of
delays_too_long = refl

pub three_delays : repeats_at (held_for (integer (pos 660000) ∷ integer (pos 40000) ∷ integer (pos 40000) ∷ [])) ≡ Err (wrong (codes "repeat_us"))
unfolding repeats_at delays_at delays_of key_of
three_delays = refl

-- a text among the delays is malformed, whatever the other one is
pub delay_by_text : repeats_at (held_for (integer (pos 1) ∷ string (codes "40ms") ∷ [])) ≡ Err (wrong (codes "repeat_us"))
unfolding repeats_at delays_at delays_of key_of
delay_by_text = refl

pub one_delay : repeats_at (held (integer (pos 660000))) ≡ Err (wrong (codes "repeat_us"))
unfolding repeats_at delays_at delays_of key_of
one_delay = refl

-- repeat = ..
abbrev pub repeat_is : Data → Data
repeat_is value = table (member (codes "repeat") value no_members)

pub no_repeats : repeats_at (repeat_is (boolean false)) ≡ Ok None
unfolding repeats_at delays_at is_repeated_at
no_repeats = refl

pub repeats_said_aloud : repeats_at (repeat_is (boolean true)) ≡ Ok (Some (record { first = 500000; next = 50000 }))
unfolding repeats_at delays_at is_repeated_at
repeats_said_aloud = refl

-- delays are judged although no key is repeated
pub judged_without_repeats
    : repeats_at (table (member (codes "repeat") (boolean false) (member (codes "repeat_us") (integers (integer (pos 0) ∷ integer (pos 40000) ∷ [])) no_members)))
    ≡ Err (out_of_range (codes "repeat_us") (pos 0))
unfolding repeats_at delays_at delays_of key_of
judged_without_repeats = refl

-- repeat = 0 before a device that is none: the repeats are read before the devices
pub repeat_by_number
    : plan_of (table (member (codes "device") (integer (pos 1)) (member (codes "display") (extent 1080 2400) (member (codes "repeat") (integer (pos 0)) no_members))))
    ≡ Err (wrong (codes "repeat"))
unfolding plan_of displays_of display_at extra_displays_of display_of tables_at number_at number_or number repeats_at delays_at is_repeated_at key_of
repeat_by_number = refl

-- and behind end_us
pub end_before_repeats
    : plan_of (table (member (codes "display") (extent 1080 2400) (member (codes "end_us") (boolean true) (member (codes "repeat_us") (integer (pos 0)) no_members))))
    ≡ Err (wrong (codes "end_us"))
unfolding plan_of displays_of display_at extra_displays_of display_of tables_at number_at number_or number key_of
end_before_repeats = refl

-- the first step asks for the focus on a channel that no channel is
pub unknown_channel
    : steps_of [] 0 1
    (table (member (codes "step") (array (items_of (table (member (codes "at_us") (integer (pos 0)) (member (codes "channel") (string (codes "main")) (member (codes "do") (string (codes "focus")) no_members))) ∷ []))) no_members))
    ≡ Err (unknown_name (codes "step[1].channel"))
unfolding steps_of step_of act_of focus_of display_number tables_at tables number_at number_or number text_at key_of digits
unknown_channel = refl

-- steps by moment and lane
abbrev pub step : ℕ → ℕ → Step
step at lane = record { at = at; lane = lane; act = FocusOn 0 None }

pub agreeing_moments_keep_their_order : in_order (step 5 1 ∷ step 3 2 ∷ step 5 3 ∷ step 3 4 ∷ []) ≡ step 3 2 ∷ step 3 4 ∷ step 5 1 ∷ step 5 3 ∷ []
agreeing_moments_keep_their_order = refl

-- a window of nobody: frame = [0, 0, 1080, 1200], wall = .., and these keys before them, by name
abbrev pub upper_half : Data
upper_half = integers (integer (pos 0) ∷ integer (pos 0) ∷ integer (pos 1080) ∷ integer (pos 1200) ∷ [])

abbrev pub wall_table : (wall : Bool) → Data
wall_table wall = table (member (codes "frame") upper_half (member (codes "wall") (boolean wall) no_members))

-- in a session with the channel `app` and two displays, as window 2 of step 3, behind a wall of display 1
abbrev pub wall_of : ℕ → Window
wall_of display = record {
  channel = 65 + display;
  display = display;
  frame = record { left = pos 0; top = pos 0; right = pos 1080; bottom = pos 1200 };
  region = record { left = pos 0; top = pos 0; right = pos 1080; bottom = pos 1200 } ∷ [];
  flags = record { bits = 0 };
  owner = 0;
  opacity = 100;
  occlusion = Block;
}

abbrev pub app : ChannelData
app = record { name = codes "app"; limit = 5000000; finish_after = 0; finishes = true }

abbrev pub read_window : Data → Result Window Fault
read_window d = window_of (app ∷ []) 2 (AtWindow 3 2) (wall_of 1 ∷ []) d

pub a_wall : read_window (wall_table true) ≡ Ok (wall_of 0)
unfolding window_of wall_at no_channel display_number number_or region_at rect_of rectangle bits_for bits_at occlusion_at
a_wall = refl

-- display = 1 before the frame: a second wall of display 1
pub a_second_wall
    : read_window (table (member (codes "display") (integer (pos 1)) (member (codes "frame") upper_half (member (codes "wall") (boolean true) no_members))))
    ≡ Ok (wall_of 1)
unfolding window_of wall_at no_channel display_number number_or number region_at rect_of rectangle bits_for bits_at occlusion_at
a_second_wall = refl

-- wall = false is as no wall at all: the channel is missing
pub no_wall : read_window (wall_table false) ≡ Err (missing (codes "step[3].windows[2].channel"))
unfolding window_of wall_at new_channel text_at key_of digits
no_wall = refl

pub a_wall_with_a_channel
    : read_window (table (member (codes "channel") (string (codes "app")) (member (codes "frame") upper_half (member (codes "wall") (boolean true) no_members))))
    ≡ Err (wrong (codes "step[3].windows[2].channel"))
unfolding window_of wall_at no_channel key_of digits
a_wall_with_a_channel = refl

pub a_wall_that_spies
    : read_window (table (member (codes "flags") (array (items_of (string (codes "SPY") ∷ []))) (member (codes "frame") upper_half (member (codes "wall") (boolean true) no_members))))
    ≡ Err (wrong (codes "step[3].windows[2].flags"))
unfolding window_of wall_at no_channel display_number number_or region_at rect_of rectangle bits_for bits_at bits_of find_row key_of digits
a_wall_that_spies = refl

pub a_wall_by_number
    : read_window (table (member (codes "frame") upper_half (member (codes "wall") (integer (pos 1)) no_members))) ≡ Err (wrong (codes "step[3].windows[2].wall"))
unfolding window_of wall_at key_of digits
a_wall_by_number = refl
