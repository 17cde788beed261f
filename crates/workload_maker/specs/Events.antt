-- The events of a workload, packet by packet.
use Rattle.std.specs.Prelude.{ℕ, zero, suc, ◌+◌, ◌*◌, ◌%◌, ◌==◌, Bool, ℤ, pos, negsuc, List, [], ◌∷◌, ◌++◌, if◌then◌else◌}
use Rattle.bits32.specs.Set.{is_in, marked, cleared}
use Rattle.raw_events.specs.declared.event.RawEvent.{RawEvent}
use Rattle.workload_maker.specs.Numbers.{first_number, drawn_after}

-- what is remembered from one packet to the next: the number drawn last, how many contacts were made, and the slots that have one
pub record Fingers : Type 0 where
  pub number : ℕ
  pub contacts : ℕ
  pub held : ℕ

-- an event of the touch device on one of its axes, EV_ABS
abbrev pub axis_event : ℕ → ℕ → ℤ → RawEvent
axis_event at code value = record { device = 1; moment = at; kind = 3; code = code; value = value }

-- the end of a packet, SYN_REPORT
abbrev pub report_event : ℕ → RawEvent
report_event at = record { device = 1; moment = at; kind = 0; code = 0; value = pos 0 }

-- the slot that the packet is about, ABS_MT_SLOT
abbrev pub slot_event : ℕ → ℕ → RawEvent
slot_event at slot = axis_event at 47 (pos slot)

-- the contact that the slot has from now on, ABS_MT_TRACKING_ID
abbrev pub begin_event : ℕ → ℕ → RawEvent
begin_event at contact = axis_event at 57 (pos contact)

-- the slot no longer has a contact, ABS_MT_TRACKING_ID with -1
abbrev pub end_event : ℕ → RawEvent
end_event at = axis_event at 57 (negsuc 0)

-- the column of a place, ABS_MT_POSITION_X, from the number that is drawn for it
abbrev pub x_event : ℕ → ℕ → RawEvent
x_event at number = axis_event at 53 (pos (number % 1080))

-- the row of a place, ABS_MT_POSITION_Y, from the number that is drawn for it
abbrev pub y_event : ℕ → ℕ → RawEvent
y_event at number = axis_event at 54 (pos (number % 2400))

-- a place, its column and then its row, from the two numbers that are drawn after this one
abbrev pub place_events : ℕ → ℕ → List RawEvent
place_events at number = x_event at (drawn_after number) ∷ y_event at (drawn_after (drawn_after number)) ∷ []

-- the fingers after the two numbers of a place
abbrev pub placed : Fingers → Fingers
placed f = record { number = drawn_after (drawn_after f.number); contacts = f.contacts; held = f.held }

-- the fingers after one number
abbrev pub drawn : Fingers → Fingers
drawn f = record { number = drawn_after f.number; contacts = f.contacts; held = f.held }

-- the fingers after a contact was made in the slot
abbrev pub begun : ℕ → Fingers → Fingers
begun slot f = record { number = f.number; contacts = f.contacts + 1; held = marked slot f.held }

-- the fingers after the contact of the slot ended
abbrev pub ended : ℕ → Fingers → Fingers
ended slot f = record { number = f.number; contacts = f.contacts; held = cleared slot f.held }

-- a contact ends with the numbers that 4 divides
unfoldable pub ends : ℕ → Bool
ends number = number % 4 == 0

-- the changes of the slot: it gets a contact if it has none; otherwise a number decides whether its contact ends or
-- moves
abbrev pub slot_events : ℕ → ℕ → Fingers → List RawEvent
slot_events at slot f =
    if is_in slot f.held
    then (if ends (drawn_after f.number) then end_event at ∷ [] else place_events at (drawn_after f.number))
    else begin_event at f.contacts ∷ place_events at f.number

-- the fingers after that
abbrev pub after_slot : ℕ → Fingers → Fingers
after_slot slot f =
    if is_in slot f.held
    then (if ends (drawn_after f.number) then ended slot (drawn f) else placed (drawn f))
    else placed (begun slot f)

-- the slot of a packet, from the number that is drawn for it
unfoldable pub slot_of : ℕ → ℕ → ℕ
slot_of fingers number = number % fingers

-- the events of so many packets of so many fingers; the first is packet i, and packet i comes at i * 8000 microseconds
abbrev pub packets : ℕ → ℕ → ℕ → Fingers → List RawEvent
packets fingers zero i f = []
packets fingers (suc n) i f =
    slot_event (i * 8000) (slot_of fingers (drawn_after f.number))
    ∷ slot_events (i * 8000) (slot_of fingers (drawn_after f.number)) (drawn f)
    ++ report_event (i * 8000)
    ∷ packets fingers n (i + 1) (after_slot (slot_of fingers (drawn_after f.number)) (drawn f))

-- no contact was made yet, and no slot has one
abbrev pub no_fingers : ℕ → Fingers
no_fingers seed = record { number = first_number seed; contacts = 0; held = 0 }

-- the events of a workload
abbrev pub events_of : ℕ → ℕ → ℕ → List RawEvent
events_of seed count fingers = packets fingers count 0 (no_fingers seed)
