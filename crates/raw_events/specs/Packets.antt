-- Where packets of events end, and which events a drop makes void. Events stand with the newest first.
use Rattle.std.specs.Prelude.{Bool, false, not, ◌&&◌, nat_eq, List, [], ◌∷◌, if◌then◌else◌}
use Rattle.raw_events.specs.declared.event.RawEvent.{RawEvent}

-- a SYN_REPORT, which ends a packet
abbrev pub is_report : RawEvent → Bool
is_report e = nat_eq e.kind 0 && nat_eq e.code 0

-- a SYN_DROPPED
abbrev pub is_drop : RawEvent → Bool
is_drop e = nat_eq e.kind 0 && nat_eq e.code 3

-- what comes next is void: a drop came that was not void itself, and no SYN_REPORT since
abbrev pub is_void : List RawEvent → Bool
is_void [] = false
is_void (e ∷ past) = if is_void past then not (is_report e) else is_drop e
