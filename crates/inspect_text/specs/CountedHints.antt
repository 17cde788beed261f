-- Hints at numbers that should be 0, and at a byte order mark. Events and lines are newest first.
use Rattle.std.specs.Prelude.{codes, ℕ, nat_eq, Bool, List, [], ◌++◌, if◌then◌else◌}
use Rattle.std.specs.Fmt.{decimal}
use Rattle.raw_events.specs.declared.event.RawEvent.{RawEvent}
use Rattle.device_reader.specs.Cooked.{DevicePlan, Touches, Keys}
use Rattle.recording_counts.specs.Counted.{counted}
use Rattle.recording_counts.specs.Events.{event_counts, is_keys_used, is_touch_used}
use Rattle.recording_counts.specs.Lines.{begins_marked}
use Rattle.recording_counts.specs.Moments.{back_events}
use Rattle.recording_counts.specs.Touch.{ranges_of, touch_counts}

-- a line with a number of a device
abbrev pub number_line : (device : ℕ) → (words : List ℕ) → ℕ → List ℕ
number_line device words n = codes "hint device " ++ decimal device ++ words ++ decimal n ++ codes "\n"

-- positions are outside their axis
abbrev pub clamped_line : (device : ℕ) → ℕ → List ℕ
clamped_line device n = if nat_eq n 0 then [] else number_line device (codes " clamped ") n

-- events were dropped
abbrev pub drops_line : (device : ℕ) → ℕ → List ℕ
drops_line device n = if nat_eq n 0 then [] else number_line device (codes " drops ") n

-- the clock went back at some events
abbrev pub clock_line : ℕ → List ℕ
clock_line n = if nat_eq n 0 then [] else codes "hint clock back " ++ decimal n ++ codes "\n"

-- the recording begins with a byte order mark
abbrev pub mark_line : Bool → List ℕ
mark_line marked = if marked then codes "hint byte order mark\n" else []

-- the hints at the numbers of a device, by its own events
abbrev pub counts_hint : (device : ℕ) → DevicePlan → List RawEvent → List ℕ
counts_hint d (Touches plan) es = clamped_line d (touch_counts (ranges_of plan) es).clamped ++ drops_line d (event_counts is_touch_used es).drops
counts_hint d (Keys plan) es = drops_line d (event_counts is_keys_used es).drops

-- the hint at the clock, by the events of all devices
abbrev pub clock_hint : List RawEvent → List ℕ
clock_hint events = clock_line (counted (back_events events))

-- the hint at a byte order mark, by the lines
abbrev pub mark_hint : List (List ℕ) → List ℕ
mark_hint lines = mark_line (begins_marked lines)
