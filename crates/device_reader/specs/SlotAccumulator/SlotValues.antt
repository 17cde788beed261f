-- What the events of a touch device have written to its slots, by the kernel's multi-touch protocol B. Events stand
-- with the newest first.
use Rattle.std.specs.Prelude.{ℕ, Bool, false, ℤ, pos, negsuc, List, [], ◌∷◌, nat_eq, ◌&&◌, if◌then◌else◌}
use Rattle.raw_events.specs.declared.event.RawEvent.{RawEvent}
use Rattle.device_reader.specs.declared.slot_accumulator.slots.Row.{Row}

-- an EV_ABS event of this code
abbrev pub is_abs : ℕ → RawEvent → Bool
is_abs code e = nat_eq e.kind 3 && nat_eq e.code code

-- the value of an ABS_MT_SLOT is the number of this slot
abbrev pub is_slot : ℤ → ℕ → Bool
is_slot (pos n) s = nat_eq n s
is_slot (negsuc n) s = false

-- the current slot: the value of the last ABS_MT_SLOT, and 0 where none came
abbrev pub current : List RawEvent → ℤ
current [] = pos 0
current (e ∷ past) = if is_abs 47 e then e.value else current past

-- the value of an attribute of slot `s`: that of the last event of its code that came while `s` was the current slot,
-- else `first`
abbrev pub value : ℕ → ℤ → ℕ → List RawEvent → ℤ
value code first s [] = first
value code first s (e ∷ past) = if is_slot (current past) s && is_abs code e then e.value else value code first s past

-- slot `s`: its tracking id, at first -1, and its positions x and y and its tool type, at first 0
abbrev pub row : ℕ → List RawEvent → Row
row s past = record {
  tracking = value 57 (negsuc 0) s past;
  x = value 53 (pos 0) s past;
  y = value 54 (pos 0) s past;
  tool = value 55 (pos 0) s past;
}

-- a slot after an EV_ABS event was written to it
abbrev pub row_after : ℕ → ℤ → Row → Row
row_after code v r = record {
  tracking = if nat_eq code 57 then v else r.tracking;
  x = if nat_eq code 53 then v else r.x;
  y = if nat_eq code 54 then v else r.y;
  tool = if nat_eq code 55 then v else r.tool;
}
