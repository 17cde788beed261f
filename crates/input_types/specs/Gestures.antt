-- What a motion may do to the pointers that are down. One table serves for devices and for windows.
use Rattle.std.specs.Prelude.{ℕ, ◌==◌, ◌&&◌, ◌||◌, not, nat_eq, nat_lt, bit_and, Bool, true, false, cond, List, [], length, map, remove, Option, Some, None}
use Rattle.std.specs.Cmp.Lexicographic.{pointwise}
use Rattle.std.specs.Int.{bit_not, w32}
use Rattle.input_types.specs.declared.pointer.Pointer.{Pointer}
use Rattle.input_types.specs.declared.motion.Motion.{Motion}
use Rattle.input_types.specs.declared.motion.MotionAction.{MotionAction}
use Rattle.input_types.specs.declared.motion.MotionAction.TheVariants.{Down, Up, Move, Cancel, Outside, PointerDown, PointerUp}

-- the ids of some pointers, in their order
abbrev pub ids_of : List Pointer → List ℕ
ids_of ps = map (λ p. p.id) ps

-- two lists of ids are the same
abbrev pub same_ids : List ℕ → List ℕ → Bool
same_ids = pointwise nat_eq

-- `next` if the condition holds, or else None
abbrev pub allowed : {X : Type 0} → Bool → X → Option X
allowed b next = cond b (Some next) None

-- two truth values differ
abbrev pub differ : Bool → Bool → Bool
differ true b = not b
differ false b = b

-- no index and no flag
abbrev pub is_plain : ℕ → ℕ → Bool
is_plain index flags = (index == 0) && (flags == 0)

-- FLAG_CANCELED of MotionEvent and KeyEvent, 0x20
abbrev pub flag_canceled : ℕ
flag_canceled = 32

-- the mark FLAG_WINDOW_IS_OBSCURED of MotionEvent
abbrev pub flag_obscured : ℕ
flag_obscured = 1

-- the mark FLAG_WINDOW_IS_PARTIALLY_OBSCURED of MotionEvent
abbrev pub flag_partly : ℕ
flag_partly = 2

-- the flags without the marks, which are the two lowest bits
abbrev pub unmarked : ℕ → ℕ
unmarked flags = bit_and flags (bit_not w32 3)

-- no flag, or FLAG_CANCELED
abbrev pub is_end_flag : ℕ → Bool
is_end_flag flags = (flags == 0) || (flags == flag_canceled)

-- What is down after an action that lists `ids`, if `down` was down before it; both rise. None if the action may not
-- come then:
--   Down          from nothing, and lists one pointer
-- PointerDown   from something, and lists it with one more, at the index
--   Move          lists what is down
-- PointerUp     lists what is down, at least two; the one at the index goes up
--   Up            lists what is down, the last one
--   Cancel        lists what is down, which ends
--   Outside       lists one pointer, and leaves what is down
abbrev pub after_action : MotionAction → List ℕ → List ℕ → ℕ → ℕ → Option (List ℕ)
after_action Down down ids index flags = allowed (nat_eq (length down) 0 && (nat_eq (length ids) 1 && is_plain index flags)) ids
after_action PointerDown down ids index flags =
    allowed (nat_lt 0 (length down) && (nat_lt index (length ids) && (same_ids (remove ids index) down && (flags == 0)))) ids
after_action Move down ids index flags = allowed (same_ids ids down && is_plain index flags) down
after_action PointerUp down ids index flags =
    allowed (same_ids ids down && (nat_lt 1 (length ids) && (nat_lt index (length ids) && is_end_flag flags))) (remove ids index)
after_action Up down ids index flags = allowed (same_ids ids down && (nat_eq (length ids) 1 && is_plain index flags)) []
after_action Cancel down ids index flags = allowed (same_ids ids down && (nat_lt 0 (length ids) && is_plain index flags)) []
after_action Outside down ids index flags = allowed (nat_eq (length ids) 1 && is_plain index flags) down

-- the ids of a device that are down after one of its motions
abbrev pub after_motion : List ℕ → Motion → Option (List ℕ)
after_motion down m = after_action m.action down (ids_of m.pointers) m.index m.flags

-- the flags that the table judges of a motion that a window is sent: all of an Outside, and of others those without marks
abbrev pub judged_flags : MotionAction → ℕ → ℕ
judged_flags Outside flags = flags
judged_flags Down flags = unmarked flags
judged_flags PointerDown flags = unmarked flags
judged_flags Move flags = unmarked flags
judged_flags PointerUp flags = unmarked flags
judged_flags Up flags = unmarked flags
judged_flags Cancel flags = unmarked flags

-- the ids of a device that are down in a window after a motion that it is sent: by the same table, but each motion except
-- an Outside may have marks
abbrev pub after_sent : List ℕ → Motion → Option (List ℕ)
after_sent down m = after_action m.action down (ids_of m.pointers) m.index (judged_flags m.action m.flags)
