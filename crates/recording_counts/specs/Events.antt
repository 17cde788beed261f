-- Which events of a device count for what. Events stand with the newest first.
use Rattle.std.specs.Prelude.{Bool, ◌||◌, List, [], ◌∷◌, filter, if◌then◌else◌}
use Rattle.raw_events.specs.declared.event.RawEvent.{RawEvent}
use Rattle.raw_events.specs.Packets.{is_report, is_drop, is_void}
use Rattle.device_reader.specs.SlotAccumulator.SlotValues.{is_abs}
use Rattle.device_reader.specs.Packets.{is_key}
use Rattle.recording_counts.specs.Counted.{counted}
use Rattle.recording_counts.specs.declared.events.EventCounts.{EventCounts}

-- the events that a drop makes void
abbrev pub void_events : List RawEvent → List RawEvent
void_events [] = []
void_events (e ∷ past) = if is_void past then e ∷ void_events past else void_events past

-- the others
abbrev pub read_events : List RawEvent → List RawEvent
read_events [] = []
read_events (e ∷ past) = if is_void past then read_events past else e ∷ read_events past

-- a reader of a touch device looks at its kind and code
abbrev pub is_touch_used : RawEvent → Bool
is_touch_used e = (is_report e || is_drop e) || ((is_abs 47 e || is_abs 53 e) || ((is_abs 54 e || is_abs 57 e) || is_abs 55 e))

-- a reader of a device with keys does
abbrev pub is_keys_used : RawEvent → Bool
is_keys_used e = (is_report e || is_drop e) || is_key e

-- what all devices count: their events, those that a reader looks at, those that are void, and the drops, none of them void
abbrev pub event_counts : (RawEvent → Bool) → List RawEvent → EventCounts
event_counts is_used es = record {
  events = counted es;
  used = counted (filter is_used es);
  void = counted (void_events es);
  drops = counted (filter is_drop (read_events es));
}
