-- Worked examples.
use Rattle.std.specs.Prelude.{codes, ◌≡◌, ℕ, ◌-◌, ◌++◌, true, false, ℤ, pos, negsuc, Bool, List, [], ◌∷◌, replicate, Some, None}
use Rattle.std.proofs.Common.{refl}
use Rattle.std.specs.Fmt.{digits as decimal_digits}
use Rattle.input_types.specs.declared.message.Body.TheVariants.{Motion, Focus}
use Rattle.input_types.specs.declared.message.Message.{Message}
use Rattle.input_types.specs.declared.motion.MotionAction.{MotionAction}
use Rattle.input_types.specs.declared.motion.MotionAction.TheVariants.{Down, Up, Cancel, Outside, PointerDown, PointerUp}
use Rattle.input_types.specs.declared.pointer.Pointer.{Pointer}
use Rattle.raw_events.specs.declared.event.RawEvent.{RawEvent}
use Rattle.stream_text.specs.StreamFile.{Stream}
use Rattle.touch_writer.specs.declared.want.Want.{Want}
use Rattle.touch_writer.specs.EventText.{event_line, digits, in_eight, stamp, fields}
use Rattle.touch_writer.specs.State.{State, packet_of, after}
use Rattle.touch_writer_cooks.specs.Cooking.{first}
use Rattle.touch_writer_cooks.specs.Reading.{lines}
use Rattle.emit_text.specs.declared.error.EmitError.TheVariants.{NotAssignable, TooLate}
use Rattle.emit_text.specs.Emitted.{motions_of, section}
use Rattle.emit_text.specs.Motions.{Taken, taken}
use Rattle.emit_text.specs.Packets.{path, refused}

-- a pointer, and the contact that it is
abbrev pointer : ℕ → ℕ → ℕ → Pointer
pointer id x y = record { id = id; at = record { x = pos x; y = pos y } }

abbrev at : ℕ → ℕ → ℕ → Want
at id x y = record { id = id; x = pos x; y = pos y }

-- a motion of device 1
abbrev told : ℕ → ℕ → MotionAction → ℕ → List Pointer → Message
told seq moment action index pointers =
    record { seq = seq; moment = moment; body = Motion (record { device = 1; action = action; index = index; flags = 0; pointers = pointers }) }

-- ---- two fingers

abbrev one : List Pointer
one = pointer 0 100 200 ∷ []

abbrev both : List Pointer
both = pointer 0 100 200 ∷ pointer 1 300 400 ∷ []

abbrev other : List Pointer
other = pointer 1 300 400 ∷ []

abbrev two_fingers : List Message
two_fingers = told 1 1000 Down 0 one ∷ told 2 1000 PointerDown 1 both ∷ told 3 3000 PointerUp 0 both ∷ told 4 4000 Up 0 other ∷ []

abbrev motion : ℕ → ℕ → List Want → Taken
motion line moment want = record { line = line; moment = moment; want = want }

two_fingers_down
    : taken 1 2 two_fingers
    ≡ motion 2 1000 (at 0 100 200 ∷ []) ∷ motion 3 1000 (at 0 100 200 ∷ at 1 300 400 ∷ []) ∷ motion 4 3000 (at 1 300 400 ∷ []) ∷ motion 5 4000 [] ∷ []
two_fingers_down = refl

-- which slots their contacts come into: the first finger into slot 0, the second one into slot 1
abbrev into : ℕ → List Bool
into slot = replicate slot false ++ true ∷ replicate (15 - slot) false

abbrev none : List Bool
none = replicate 16 false

abbrev after_one : State
after_one = after (first 1 16) (at 0 100 200 ∷ []) (into 0)

abbrev after_two : State
after_two = after after_one (at 0 100 200 ∷ at 1 300 400 ∷ []) (into 1)

abbrev after_three : State
after_three = after after_two (at 1 300 400 ∷ []) none

-- an EV_ABS event and a SYN_REPORT of device 1
abbrev event : ℕ → ℕ → ℤ → RawEvent
event moment code value = record { device = 1; moment = moment; kind = 3; code = code; value = value }

abbrev report : ℕ → RawEvent
report moment = record { device = 1; moment = moment; kind = 0; code = 0; value = pos 0 }

first_down : packet_of (first 1 16) 1000 (at 0 100 200 ∷ []) (into 0)
    ≡ event 1000 57 (pos 0) ∷ event 1000 53 (pos 100) ∷ event 1000 54 (pos 200) ∷ report 1000 ∷ []
first_down = refl

second_down : packet_of after_one 1000 (at 0 100 200 ∷ at 1 300 400 ∷ []) (into 1)
    ≡ event 1000 47 (pos 1) ∷ event 1000 57 (pos 1) ∷ event 1000 53 (pos 300) ∷ event 1000 54 (pos 400) ∷ report 1000 ∷ []
second_down = refl

first_up : packet_of after_two 3000 (at 1 300 400 ∷ []) none ≡ event 3000 47 (pos 0) ∷ event 3000 57 (negsuc 0) ∷ report 3000 ∷ []
first_up = refl

second_up : packet_of after_three 4000 [] none ≡ event 4000 47 (pos 1) ∷ event 4000 57 (negsuc 0) ∷ report 4000 ∷ []
second_up = refl

first_lines : lines path (packet_of (first 1 16) 1000 (at 0 100 200 ∷ []) (into 0))
    ≡ codes "[       0.001000] /dev/input/event0: 0003 0039 00000000\n[       0.001000] /dev/input/event0: 0003 0035 00000064\n[       0.001000] /dev/input/event0: 0003 0036 000000c8\n[       0.001000] /dev/input/event0: 0000 0000 00000000\n"
unfolding event_line stamp in_eight fields digits decimal_digits
first_lines = refl

-- ---- a tap, and a second one at the same place

abbrev tap : List Want
tap = at 0 540 1200 ∷ []

abbrev after_tap : State
after_tap = after (after (first 1 16) tap (into 0)) [] none

second_tap : packet_of after_tap 9000 tap (into 0) ≡ event 9000 57 (pos 1) ∷ report 9000 ∷ []
second_tap = refl

-- ---- a finger in place of another one

-- The first finger went up, so a new one gets id 0. The one in line 4 has id 1.
abbrev replaced : List Message
replaced = told 1 1000 Down 0 (pointer 0 540 1200 ∷ []) ∷ told 2 2000 Up 0 (pointer 0 540 1200 ∷ []) ∷ told 3 2000 Down 0 (pointer 1 540 1200 ∷ []) ∷ []

replaced_down : taken 1 2 replaced ≡ motion 2 1000 tap ∷ motion 3 2000 [] ∷ motion 4 2000 (at 1 540 1200 ∷ []) ∷ []
replaced_down = refl

not_assignable : refused after_tap (motion 4 2000 (at 1 540 1200 ∷ [])) ≡ Some (NotAssignable 4)
not_assignable = refl

-- a moment that no event of a recording has comes before an id that cannot be assigned
too_late : refused after_tap (motion 4 1000000000000000000 (at 1 540 1200 ∷ [])) ≡ Some (TooLate 4)
too_late = refl

-- ---- what is skipped

-- another device, a focus, and a finger that goes down outside
passed_over
    : taken 2 2 (told 1 1000 Down 0 one ∷ record { seq = 2; moment = 1000; body = Focus true } ∷ []) ≡ []
passed_over = refl

outside : taken 1 2 (told 1 1000 Outside 0 one ∷ told 2 2000 Down 0 one ∷ told 3 3000 Cancel 0 one ∷ [])
    ≡ motion 3 2000 (at 0 100 200 ∷ []) ∷ motion 4 3000 [] ∷ []
outside = refl

-- the first section of a channel counts
abbrev stream : ℕ → ℕ → List Message → Stream
stream id first_line messages = record { id = id; first_line = first_line; messages = messages }

first_section : section 2 (stream 1 2 two_fingers ∷ stream 2 8 [] ∷ stream 2 10 replaced ∷ []) ≡ Some (stream 2 8 [])
first_section = refl

no_section : motions_of 3 1 (stream 1 2 two_fingers ∷ stream 2 8 [] ∷ []) ≡ None
no_section = refl
