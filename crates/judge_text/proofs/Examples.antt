-- Worked examples.
use Rattle.std.specs.Prelude.{codes, ◌≡◌, ℕ, Bool, true, false, List, [], ◌∷◌, Ok, Err, pos}
use Rattle.std.proofs.Common.{refl}
use Rattle.std.specs.Fmt.{digits}
use Rattle.input_types.specs.declared.message.Body.{Body}
use Rattle.input_types.specs.declared.message.Body.TheVariants.{Motion, Key}
use Rattle.input_types.specs.declared.message.Message.{Message}
use Rattle.input_types.specs.declared.motion.MotionAction.{MotionAction}
use Rattle.input_types.specs.declared.motion.MotionAction.TheVariants.{Down, Up, Outside}
use Rattle.input_types.specs.declared.pointer.Pointer.{Pointer}
use Rattle.gesture_verifier.specs.declared.reason.Reason.TheVariants.{AlreadyDown, Flags, NothingDown}
use Rattle.stream_text.specs.StreamFile.{Stream}
use Rattle.judge_text.specs.declared.error.JudgeError.TheVariants.{BadLine, Broken, Nothing, StillDown}
use Rattle.judge_text.specs.Down.{Down as LeftDown}
use Rattle.judge_text.specs.Judged.{count_line, judged_streams, whole_line}
use Rattle.judge_text.specs.Lines.{refusal_line}

abbrev told : Body → Message
told body = record { seq = 1; moment = 1000; body = body }

abbrev finger : ℕ → Pointer
finger id = record { id = id; at = record { x = pos 5; y = pos 5 } }

-- a motion, with no flag
abbrev motion : ℕ → MotionAction → ℕ → List Pointer → Message
motion device action index fingers = told (Motion (record { device = device; action = action; index = index; flags = 0; pointers = fingers }))

abbrev key : ℕ → ℕ → Bool → Message
key device scan down = told (Key (record { key = record { device = device; scan = scan; code = 0; meta = 0; down = down }; flags = 0; repeat = 0 }))

abbrev down : Message
down = motion 1 Down 0 (finger 0 ∷ [])

abbrev up : Message
up = motion 1 Up 0 (finger 0 ∷ [])

abbrev stream : ℕ → ℕ → List Message → Stream
stream id first_line messages = record { id = id; first_line = first_line; messages = messages }

tap : judged_streams (Ok (stream 7 2 (down ∷ up ∷ []) ∷ stream 7 5 [] ∷ [])) ≡ Ok (codes "channel 7 whole 2\nchannel 7 whole 0\njudged 2 2\n")
unfolding whole_line count_line digits
tap = refl

-- the end of a section stands behind its messages
finger_down : judged_streams (Ok (stream 7 2 (down ∷ []) ∷ [])) ≡ Err (StillDown 3 (record { pointers = (1, 0 ∷ []) ∷ []; keys = [] }))
finger_down = refl

-- the first section that leaves something down is reported
first_section : judged_streams (Ok (stream 7 2 (key 3 30 true ∷ []) ∷ stream 8 5 (down ∷ []) ∷ []))
    ≡ Err (StillDown 3 (record { pointers = []; keys = record { device = 3; scan = 30 } ∷ [] }))
first_section = refl

-- devices rise, and then keys by their devices and scan codes
in_order : judged_streams (Ok (stream 7 2 (key 3 9 true ∷ motion 4 Down 0 (finger 2 ∷ []) ∷ key 2 31 true ∷ down ∷ key 2 30 true ∷ key 2 5 true ∷ key 2 30 false ∷ []) ∷ []))
    ≡ Err
    (StillDown 9 (record {
      pointers = (1, 0 ∷ []) ∷ (4, 2 ∷ []) ∷ [];
      keys = record { device = 2; scan = 5 } ∷ record { device = 2; scan = 31 } ∷ record { device = 3; scan = 9 } ∷ [];
    }))
in_order = refl

-- the first message that may not come is reported, even after a section that leaves a finger down
two_breaks : judged_streams (Ok (stream 7 2 (down ∷ []) ∷ stream 8 5 (down ∷ down ∷ []) ∷ stream 9 9 (up ∷ []) ∷ [])) ≡ Err (Broken 6 AlreadyDown)
two_breaks = refl

up_of_none : judged_streams (Ok (stream 7 2 (up ∷ []) ∷ [])) ≡ Err (Broken 2 NothingDown)
up_of_none = refl

-- a motion with marks, 1 and 2, which an Outside may not have
abbrev marked : ℕ → MotionAction → Message
marked flags action = told (Motion (record { device = 1; action = action; index = 0; flags = flags; pointers = finger 0 ∷ [] }))

marked_tap : judged_streams (Ok (stream 7 2 (marked 1 Down ∷ marked 3 Up ∷ []) ∷ [])) ≡ Ok (codes "channel 7 whole 2\njudged 1 2\n")
unfolding whole_line count_line digits
marked_tap = refl

marked_outside : judged_streams (Ok (stream 7 2 (marked 2 Outside ∷ []) ∷ [])) ≡ Err (Broken 2 Flags)
marked_outside = refl

no_message : judged_streams (Ok (stream 7 2 [] ∷ [])) ≡ Err Nothing
no_message = refl

no_section : judged_streams (Ok []) ≡ Err Nothing
no_section = refl

bad_line : judged_streams (Err 4) ≡ Err (BadLine 4)
bad_line = refl

abbrev left : LeftDown
left = record { pointers = (1, 0 ∷ 2 ∷ []) ∷ (3, 4 ∷ []) ∷ []; keys = record { device = 2; scan = 7 } ∷ [] }

still_down : refusal_line (StillDown 5 left) ≡ codes "stream: StillDown 5 1:0,2 3:4 key 2:7"
unfolding refusal_line digits
still_down = refl

broken : refusal_line (Broken 3 AlreadyDown) ≡ codes "stream: Broken 3 AlreadyDown"
unfolding refusal_line digits
broken = refl
