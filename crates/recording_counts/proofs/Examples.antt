-- Worked examples: what is counted of events and lines that are written out. They stand with the newest first.
use Rattle.std.specs.Prelude.{codes, ◌≡◌, ℕ, ℤ, pos, negsuc, true, false, List, [], ◌∷◌, map, refl}
use Rattle.raw_events.specs.declared.event.RawEvent.{RawEvent}
use Rattle.raw_events.specs.Line.{Known, judged, judged_text, formed, fields_of, moment_at, seconds_at, path_at}
use Rattle.raw_events.specs.Text.{number_at}
use Rattle.device_reader.specs.declared.pointer_ids.assigned.Held.{Held}
use Rattle.device_reader.specs.PointerIds.PointerIds.{assigned, least_free}
use Rattle.recording_counts.specs.declared.touch.Ranges.{Ranges}
use Rattle.recording_counts.specs.Events.{event_counts, is_keys_used, is_touch_used}
use Rattle.recording_counts.specs.Lines.{begins_marked, is_blank_line, is_event_line, is_other_line, is_unknown_line, path_named}
use Rattle.recording_counts.specs.Moments.{back_events}
use Rattle.recording_counts.specs.Paths.{firsts, times}
use Rattle.recording_counts.specs.Touch.{held_at, touch_counts}

abbrev event : ℕ → ℕ → ℤ → RawEvent
event kind code value = record { device = 1; moment = 1000000; kind = kind; code = code; value = value }

abbrev report : RawEvent
report = event 0 0 (pos 0)

abbrev drop : RawEvent
drop = event 0 3 (pos 0)

abbrev x : ℤ → RawEvent
x value = event 3 53 value

abbrev slot : ℤ → RawEvent
slot value = event 3 47 value

abbrev tracking : ℤ → RawEvent
tracking value = event 3 57 value

-- x from 0 to 1079, y from 0 to 2399, and ten slots
abbrev screen : Ranges
screen = record { x = record { min = pos 0; max = pos 1079 }; y = record { min = pos 0; max = pos 2399 }; slots = 10 }

-- a finger in slot 0 at x 540, a second one in slot 1 at x 1080, a slot that the device does not have, and the end of the packet
abbrev two : List RawEvent
two = report ∷ slot (pos 10) ∷ x (pos 1080) ∷ tracking (pos 46) ∷ slot (pos 1) ∷ x (pos 540) ∷ tracking (pos 45) ∷ []

two_counted : touch_counts screen two ≡ record { packets = 1; fingers = 2; palms = 0; clamped = 1; strayed = 1; single = false; placed = true; protocol_a = false }
two_counted = refl

two_held : map (λ (h : Held). h.id) (held_at 10 two) ≡ 0 ∷ 1 ∷ []
unfolding assigned least_free
two_held = refl

-- behind a drop a slot, a position outside its axis and the end of the packet are void, and no pointer is held
abbrev dropped : List RawEvent
dropped = report ∷ x (pos 5000) ∷ slot (negsuc 0) ∷ drop ∷ two

dropped_events : event_counts is_touch_used dropped ≡ record { events = 11; used = 11; void = 3; drops = 1 }
dropped_events = refl

dropped_counted : touch_counts screen dropped ≡ record { packets = 1; fingers = 2; palms = 0; clamped = 1; strayed = 1; single = false; placed = true; protocol_a = false }
dropped_counted = refl

dropped_held : held_at 10 dropped ≡ []
unfolding assigned
dropped_held = refl

-- a keyboard's reader looks at keys, and not at what a key is called beside (EV_MSC)
keys_used : event_counts is_keys_used (report ∷ event 1 115 (pos 1) ∷ event 4 4 (pos 115) ∷ []) ≡ record { events = 3; used = 2; void = 0; drops = 0 }
keys_used = refl

-- a session with one device
abbrev devices : Known
devices = (codes "/dev/input/event2", 1) ∷ []

abbrev elsewhere : List ℕ
elsewhere = codes "[ 1.500000] /dev/input/event5: 0001 0073 00000001"

other_line : is_other_line devices (codes "add device 1: x") ≡ true
unfolding judged judged_text fields_of number_at
other_line = refl

blank_line : is_blank_line devices (codes " ") ≡ true
unfolding judged judged_text
blank_line = refl

unknown_line : is_unknown_line devices elsewhere ≡ true
unfolding judged judged_text formed fields_of moment_at seconds_at path_at number_at
unknown_line = refl

unknown_path : path_named elsewhere ≡ codes "/dev/input/event5"
unfolding moment_at seconds_at path_at number_at
unknown_path = refl

event_line : is_event_line devices (codes "[ 1.500000] 0001 0073 00000001") ≡ true
unfolding judged judged_text formed fields_of moment_at seconds_at path_at number_at
event_line = refl

abbrev a : List ℕ
a = codes "/a"

abbrev b : List ℕ
b = codes "/b"

first_paths : firsts (a ∷ b ∷ b ∷ a ∷ []) ≡ a ∷ b ∷ []
first_paths = refl

b_times : times b (a ∷ b ∷ b ∷ a ∷ []) ≡ 2
b_times = refl

-- at the second and the last event the clock is below the 7 of the first one, at the third it is not
abbrev at : ℕ → RawEvent
at moment = record { device = 1; moment = moment; kind = 0; code = 0; value = pos 0 }

went_back : back_events (at 6 ∷ at 7 ∷ at 4 ∷ at 7 ∷ []) ≡ at 6 ∷ at 4 ∷ []
went_back = refl

went_on : back_events (at 9 ∷ at 9 ∷ at 3 ∷ []) ≡ []
went_on = refl

-- the bytes EF BB BF, and a line behind them; only in front of the first line they are a mark
abbrev marked : List ℕ
marked = 239 ∷ 187 ∷ 191 ∷ codes "# touches"

first_marked : begins_marked (codes "[ 1.500000] 0001 0073 00000001" ∷ marked ∷ []) ≡ true
first_marked = refl

second_marked : begins_marked (marked ∷ codes "# touches" ∷ []) ≡ false
second_marked = refl

marked_is_other : is_other_line devices marked ≡ true
unfolding judged judged_text fields_of number_at
marked_is_other = refl
