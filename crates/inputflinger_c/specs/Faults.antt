-- A fault as C gets it, and the result of a step of a judge.
use Rattle.std.specs.Prelude.{ℕ, Option, Some, None, is_some}
use Rattle.std.specs.Option.{unwrap_or}
use Rattle.gesture_verifier.specs.declared.fault.Fault.{Fault}
use Rattle.gesture_verifier.specs.declared.reason.Reason.{Reason}
use Rattle.gesture_verifier.specs.declared.reason.Reason.TheVariants.{Flags, AlreadyDown, OnePointer, NothingDown, OtherPointers, LastPointer, MorePointers, RepeatOfNothing, RepeatOutOfTurn, KeyNotDown, RepeatOnUp, FocusTwice}
use Rattle.plain_calls.specs.Numbers.{flag}
use Rattle.inputflinger_c.specs.declared.fault.PlainFault.{PlainFault}

-- the number of a reason; 0 for none
abbrev pub reason_number : Option Reason → ℕ
reason_number None = 0
reason_number (Some Flags) = 1
reason_number (Some AlreadyDown) = 2
reason_number (Some OnePointer) = 3
reason_number (Some NothingDown) = 4
reason_number (Some OtherPointers) = 5
reason_number (Some LastPointer) = 6
reason_number (Some MorePointers) = 7
reason_number (Some RepeatOfNothing) = 8
reason_number (Some RepeatOutOfTurn) = 9
reason_number (Some KeyNotDown) = 10
reason_number (Some RepeatOnUp) = 11
reason_number (Some FocusTwice) = 12

-- a fault by its numbers: the next repeat is 0 if there is none
abbrev pub plain_fault : Fault → PlainFault
plain_fault f = record {
  place = f.place;
  next_repeat = unwrap_or f.next_repeat 0;
  held = f.held;
  reason = reason_number f.reason;
  key_down = flag (is_some f.next_repeat);
  focus = flag f.focus;
}
