-- Worked examples: the text of a session and a mouse. Events and calls are newest first.
use Rattle.std.specs.Prelude.{codes, ◌≡◌, ℕ, ℤ, pos, negsuc, true, false, List, [], ◌∷◌, Some, None, refl}
use Rattle.std.specs.Fmt.{digits}
use Rattle.input_types.specs.declared.axis.Rotation.{Rotation}
use Rattle.input_types.specs.declared.axis.Rotation.TheVariants.{R0, R90}
use Rattle.key_repeat.specs.Due.{android_delays}
use Rattle.touch_region.specs.declared.rectangle.Rect.{Rect}
use Rattle.window_snapshot.specs.declared.occlusion.Occlusion.TheVariants.{Block}
use Rattle.window_snapshot.specs.declared.window.Window.{Window}
use Rattle.raw_events.specs.declared.event.RawEvent.{RawEvent}
use Rattle.session_plan.specs.declared.plan.Act.{Act}
use Rattle.session_plan.specs.declared.plan.Act.TheVariants as acts
use Rattle.session_plan.specs.declared.plan.Step.{Step}
use Rattle.session_plan.specs.Plan.{ChannelData, PlanData}
use Rattle.cursor_core.specs.declared.call.CursorCall.TheVariants.{Moved, Windows}
use Rattle.stream_text.specs.Spelling.{channel_line}
use Rattle.hover_text.specs.Laws.{are_in_order, mouse_motions}
use Rattle.hover_text.specs.Lines.{end_line, message_line, place_text}
use Rattle.hover_text.specs.Schedule.{calls_of}
use Rattle.hover_text.specs.Screen.{screen_of}
use Rattle.hover_text.specs.Text.{hovered_text}

-- a window of a channel that can be touched all over its frame
abbrev window : ℕ → ℕ → ℕ → ℕ → ℕ → Window
window channel left top right bottom =
    let frame : Rect = record { left = pos left; top = pos top; right = pos right; bottom = pos bottom } in
    record { channel = channel; display = 0; frame = frame; region = frame ∷ []; flags = record { bits = 0 }; owner = 0; opacity = 100; occlusion = Block }

abbrev left : Window
left = window 1 0 0 540 2400

abbrev right : Window
right = window 2 540 0 1080 2400

abbrev step : ℕ → Act → Step
step at act = record { at = at; lane = 1; act = act }

abbrev named : List ℕ → ChannelData
named name = record { name = name; limit = 5000000; finish_after = 0; finishes = true }

-- a phone that is turned so, with two channels and these steps
abbrev phone : Rotation → List Step → PlanData
phone rotation steps =
    record {
      displays = record { width = 1080; height = 2400; rotation = rotation } ∷ [];
      devices = [];
      channels = named (codes "left") ∷ named (codes "right") ∷ [];
      steps = steps;
      end = 0;
      repeats = Some android_delays;
    }

abbrev event : ℕ → ℕ → ℕ → ℤ → RawEvent
event moment kind code value = record { device = 1; moment = moment; kind = kind; code = code; value = value }

-- the end of a packet
abbrev report : ℕ → RawEvent
report moment = event moment 0 0 (pos 0)

-- 40 to the left, 100 to the right and 5000 up
abbrev walk : List RawEvent
walk = report 3000 ∷ event 3000 2 1 (negsuc 4999) ∷ report 2000 ∷ event 2000 2 0 (pos 100) ∷ report 1000 ∷ event 1000 2 0 (negsuc 39) ∷ []

pub a_walk
    : hovered_text (phone R0 (step 0 (acts.Windows (left ∷ right ∷ [])) ∷ step 4000 (acts.Windows (left ∷ [])) ∷ [])) walk
    ≡ codes
    "channel 1 left\n1000 HOVER_ENTER 500,1200\n2000 HOVER_EXIT 500,1200\nend 1 2\nchannel 2 right\n2000 HOVER_ENTER 60,1200\n3000 HOVER_MOVE 60,0\n4000 HOVER_EXIT 60,0\nend 2 3\n"
unfolding channel_line message_line place_text end_line digits
a_walk = refl

pub no_events : hovered_text (phone R0 (step 0 (acts.Windows (left ∷ [])) ∷ [])) [] ≡ codes "channel 1 left\nend 1 0\nchannel 2 right\nend 2 0\n"
unfolding channel_line message_line place_text end_line digits
no_events = refl

-- a packet counts at the moment of its SYN_REPORT, or at that of an earlier packet if that is later; a step at the
-- same moment goes before it, and a later one after it
pub steps_and_packets
    : calls_of (step 2000 (acts.Windows (left ∷ [])) ∷ step 2001 (acts.Windows []) ∷ []) (report 1900 ∷ event 1900 2 0 (pos 2) ∷ report 2000 ∷ event 500 2 0 (pos 1) ∷ [])
    ≡ Windows 2001 [] ∷ Moved 2000 (pos 2) (pos 0) ∷ Moved 2000 (pos 1) (pos 0) ∷ Windows 2000 (left ∷ []) ∷ []
steps_and_packets = refl

-- these calls are in order, and the motions of the packets are
pub calls_rise
    : are_in_order (calls_of (step 2000 (acts.Windows (left ∷ [])) ∷ step 2001 (acts.Windows []) ∷ []) (report 1900 ∷ event 1900 2 0 (pos 2) ∷ report 2000 ∷ event 500 2 0 (pos 1) ∷ []))
    ≡ true
calls_rise = refl

pub motions_of_two_packets
    : mouse_motions (report 1900 ∷ event 1900 2 0 (pos 2) ∷ report 2000 ∷ event 500 2 0 (pos 1) ∷ []) ≡ Moved 2000 (pos 2) (pos 0) ∷ Moved 2000 (pos 1) (pos 0) ∷ []
motions_of_two_packets = refl

-- a step behind a motion of its moment is not in order, and neither is an earlier call behind a later one
pub step_behind_a_motion : are_in_order (Windows 2000 [] ∷ Moved 2000 (pos 1) (pos 0) ∷ []) ≡ false
step_behind_a_motion = refl

pub fallen_motion : are_in_order (Moved 1900 (pos 2) (pos 0) ∷ Moved 2000 (pos 1) (pos 0) ∷ []) ≡ false
fallen_motion = refl

-- a packet that moves nothing makes later ones as late as it is
pub late_packets
    : calls_of (step 1500 (acts.Windows []) ∷ []) (report 1000 ∷ event 1000 2 0 (pos 1) ∷ report 2000 ∷ [])
    ≡ Moved 2000 (pos 1) (pos 0) ∷ Windows 1500 [] ∷ []
late_packets = refl

-- the focus and a pilfer are skipped
pub other_steps : calls_of (step 1000 (acts.Pilfer 1 1) ∷ step 2000 (acts.FocusOn 0 None) ∷ []) [] ≡ []
other_steps = refl

-- a quarter turn makes the height the width
pub a_turned_phone : screen_of (phone R90 []) ≡ record { width = 2400; height = 1080; channels = 2 }
a_turned_phone = refl
