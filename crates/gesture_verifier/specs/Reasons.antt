-- Why a message may not come after those before it: of the reasons of its kind, the first one that holds.
use Rattle.std.specs.Prelude.{ℕ, ◌&&◌, not, nat_eq, nat_lt, Bool, true, false, List, [], ◌∷◌, length, remove, slice_get, Option, Some, None, is_some, if◌then◌else◌}
use Rattle.std.specs.List.{list_any}
use Rattle.std.specs.Option.{unwrap_or}
use Rattle.input_types.specs.declared.key.KeyMsg.{KeyMsg}
use Rattle.input_types.specs.declared.message.Body.{Body}
use Rattle.input_types.specs.declared.message.Body.TheVariants.{Motion as MotionBody, Key, Focus}
use Rattle.input_types.specs.declared.motion.Motion.{Motion}
use Rattle.input_types.specs.declared.motion.MotionAction.{MotionAction}
use Rattle.input_types.specs.declared.motion.MotionAction.TheVariants.{Down, Up, Move, Cancel, Outside, PointerDown, PointerUp}
use Rattle.input_types.specs.Gestures.{ids_of, same_ids, differ, is_end_flag, judged_flags, unmarked}
use Rattle.input_types.specs.StreamRule.{StreamState}
use Rattle.gesture_verifier.specs.declared.reason.Reason.{Reason}
use Rattle.gesture_verifier.specs.declared.reason.Reason.TheVariants.{Flags, AlreadyDown, OnePointer, NothingDown, OtherPointers, LastPointer, MorePointers, RepeatOfNothing, RepeatOutOfTurn, KeyNotDown, RepeatOnUp, FocusTwice}

-- the first reason whose condition holds
abbrev pub first_fitting : List (Bool × Reason) → Option Reason
first_fitting [] = None
first_fitting (row ∷ rows) = if row.0 then Some row.1 else first_fitting rows

-- the id at an index of a list is down
abbrev pub is_down_at : List ℕ → Option ℕ → Bool
is_down_at down None = false
is_down_at down (Some id) = list_any (λ d. nat_eq d id) down

-- why an action that lists `ids` may not come if `down` is down
abbrev pub action_reasons : MotionAction → List ℕ → List ℕ → ℕ → List (Bool × Reason)
action_reasons Down down ids index = (nat_lt 0 (length down), AlreadyDown) ∷ (not (nat_eq (length ids) 1), OnePointer) ∷ []
action_reasons PointerDown down ids index =
    (nat_eq (length down) 0, NothingDown) ∷ (is_down_at down (slice_get ids index), AlreadyDown) ∷ (not (same_ids (remove ids index) down), OtherPointers) ∷ []
action_reasons Move down ids index = (nat_eq (length down) 0, NothingDown) ∷ (not (same_ids ids down), OtherPointers) ∷ []
action_reasons PointerUp down ids index =
    (nat_eq (length down) 0, NothingDown) ∷ (not (same_ids ids down), OtherPointers) ∷ (nat_eq (length down) 1, LastPointer) ∷ []
action_reasons Up down ids index =
    (nat_eq (length down) 0, NothingDown) ∷ (not (same_ids ids down), OtherPointers) ∷ (nat_lt 1 (length down), MorePointers) ∷ []
action_reasons Cancel down ids index = (nat_eq (length down) 0, NothingDown) ∷ (not (same_ids ids down), OtherPointers) ∷ []
action_reasons Outside down ids index = (not (nat_eq (length ids) 1), OnePointer) ∷ []

-- the action of one pointer of several that goes up
abbrev pub is_pointer_up : MotionAction → Bool
is_pointer_up PointerUp = true
is_pointer_up Down = false
is_pointer_up Up = false
is_pointer_up Move = false
is_pointer_up Cancel = false
is_pointer_up Outside = false
is_pointer_up PointerDown = false

-- why a motion may not come if `down` is down on its device: only a PointerUp may be canceled, and an Outside has no mark
abbrev pub motion_reasons : List ℕ → Motion → List (Bool × Reason)
motion_reasons down m =
    (not (is_pointer_up m.action) && not (nat_eq (judged_flags m.action m.flags) 0), Flags) ∷ action_reasons m.action down (ids_of m.pointers) m.index

-- why a key message may not come, if `due` is the next repeat number of a key that is down
abbrev pub key_reasons : Option ℕ → KeyMsg → List (Bool × Reason)
key_reasons due m =
    if m.key.down
    then (not (is_some due) && not (nat_eq m.repeat 0), RepeatOfNothing) ∷ (is_some due && not (nat_eq (unwrap_or due 0) m.repeat), RepeatOutOfTurn) ∷ []
    else (not (is_some due), KeyNotDown) ∷ (not (nat_eq m.repeat 0), RepeatOnUp) ∷ []

-- why a message may not come if a window knows this
abbrev pub reason_of : StreamState → Body → Option Reason
reason_of s (MotionBody m) = first_fitting (motion_reasons (s.ids m.device) m)
reason_of s (Key m) = first_fitting (key_reasons (s.repeats m.key.device m.key.scan) m)
reason_of s (Focus b) = first_fitting ((not (differ b s.focus), FocusTwice) ∷ [])

-- the action of one pointer among others, given by the index
abbrev pub is_of_one : MotionAction → Bool
is_of_one PointerDown = true
is_of_one PointerUp = true
is_of_one Down = false
is_of_one Up = false
is_of_one Move = false
is_of_one Cancel = false
is_of_one Outside = false

-- A message that a line of a stream file can express. A motion lists some pointers, has no flag but marks or is canceled
-- beside, and has the index of one of them if one goes down or up, and otherwise index 0. A key that goes down has no flag, and
-- one that goes up may be canceled.
abbrev pub is_spelled : Body → Bool
is_spelled (MotionBody m) =
    nat_lt 0 (length m.pointers) && (is_end_flag (unmarked m.flags) && (if is_of_one m.action then nat_lt m.index (length m.pointers) else nat_eq m.index 0))
is_spelled (Key m) = if m.key.down then nat_eq m.flags 0 else is_end_flag m.flags
is_spelled (Focus b) = true
