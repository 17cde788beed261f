-- The packets of a mouse's events. Events are newest first.
use Rattle.std.specs.Prelude.{ℕ, ℤ, pos, ◌+ℤ◌, max, Bool, false, not, ◌&&◌, ◌||◌, nat_eq, List, [], ◌∷◌, Option, Some, None, if◌then◌else◌}
use Rattle.std.specs.Int.{saturate_signed, w64}
use Rattle.raw_events.specs.declared.event.RawEvent.{RawEvent}
use Rattle.cursor_core.specs.declared.call.CursorCall.{CursorCall}
use Rattle.cursor_core.specs.declared.call.CursorCall.TheVariants.{Moved}
use Rattle.raw_events.specs.Packets.{is_report, is_drop, is_void}

-- the packet that has begun: the events that are not void since the last packet end or drop. A packet ends at a SYN_REPORT that is not
-- void
abbrev pub packet : List RawEvent → List RawEvent
packet [] = []
packet (e ∷ past) = if is_void past || (is_report e || is_drop e) then [] else e ∷ packet past

-- an EV_REL of this code; REL_X is 0 and REL_Y is 1
abbrev pub is_rel : ℕ → RawEvent → Bool
is_rel code e = nat_eq e.kind 2 && nat_eq e.code code

-- a packet has an event that moves the mouse
abbrev pub has_motion : List RawEvent → Bool
has_motion [] = false
has_motion (e ∷ es) = is_rel 0 e || (is_rel 1 e || has_motion es)

-- a sum with the value of one more event, if it has the code, saturated at the ends of 64 bits
abbrev pub summed : ℕ → RawEvent → ℤ → ℤ
summed code e sum = if is_rel code e then saturate_signed w64 (sum +ℤ e.value) else sum

-- the sum of the values of a code
abbrev pub sum_of : ℕ → List RawEvent → ℤ
sum_of code [] = pos 0
sum_of code (e ∷ es) = summed code e (sum_of code es)

-- how a packet moves the mouse
abbrev pub motion_by : ℕ → List RawEvent → Option CursorCall
motion_by moment es = if has_motion es then Some (Moved moment (sum_of 0 es) (sum_of 1 es)) else None

-- an event after others ends a packet: it is a SYN_REPORT that is not void
abbrev pub is_end : List RawEvent → RawEvent → Bool
is_end past e = not (is_void past) && is_report e

-- the latest moment of a packet so far, which is that of its SYN_REPORT; 0 at first
abbrev pub latest : List RawEvent → ℕ
latest [] = 0
latest (e ∷ past) = if is_end past e then max e.moment (latest past) else latest past

-- what an event adds: the motion of the packet that it ends, at the packet's moment, or at that of an earlier packet
-- if that is later
abbrev pub motion_of : List RawEvent → RawEvent → Option CursorCall
motion_of past e = if is_end past e then motion_by (latest (e ∷ past)) (packet past) else None
