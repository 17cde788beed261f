-- What holds of the lines and the events of a recording.
use Rattle.std.specs.Prelude.{◌≡◌, ℕ, List, length, filter, Ok}
use Rattle.raw_events.specs.declared.event.RawEvent.{RawEvent}
use Rattle.raw_events.specs.Line.{Known}
use Rattle.raw_events.specs.Recording.{lines_of, recorded}
use Rattle.recording_counts.specs.Lines.{AreRead, is_event_line}

-- Where a recording is not refused, none of its lines is, and as many of them give an event as there are events.
abbrev pub EventsLaw : Type 0
EventsLaw =
    (devices : Known) (bytes : List ℕ) (events : List RawEvent) → recorded devices bytes ≡ Ok events
    → AreRead devices (lines_of bytes) × (length events ≡ length (filter (is_event_line devices) (lines_of bytes)))
