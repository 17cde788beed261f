-- What C hands in for a message, and what it stands for.
use Rattle.std.specs.Prelude.{ℕ, ◌+◌, ◌&&◌, nat_eq, nat_le, List, [], ◌∷◌, take, slice_get, Option, Some, None, if◌then◌else◌}
use Rattle.std.specs.Option.{option_map, option_and_then}
use Rattle.input_types.specs.declared.key.KeyMsg.{KeyMsg}
use Rattle.input_types.specs.declared.message.Args.{Args}
use Rattle.input_types.specs.declared.message.Args.TheVariants as args
use Rattle.input_types.specs.declared.message.Body.{Body}
use Rattle.input_types.specs.declared.message.Body.TheVariants.{Motion as MotionBody, Key, Focus}
use Rattle.input_types.specs.declared.message.Message.{Message}
use Rattle.input_types.specs.declared.motion.Motion.{Motion}
use Rattle.input_types.specs.declared.motion.MotionAction.{MotionAction}
use Rattle.input_types.specs.declared.motion.MotionAction.TheVariants.{Down, Up, Move, Cancel, Outside, PointerDown, PointerUp}
use Rattle.input_types.specs.declared.pointer.Pointer.{Pointer}
use Rattle.gesture_verifier.specs.Told.{is_device}
use Rattle.plain_calls.specs.Numbers.{moment_of, device_of}
use Rattle.plain_calls.specs.declared.message.PlainMessage.{PlainMessage}
use Rattle.plain_calls.specs.declared.message.PlainPointer.{PlainPointer}

-- a pointer as the rules see it
abbrev pub pointer_of : PlainPointer → Pointer
pointer_of p = record { id = p.id; at = record { x = p.x; y = p.y } }

-- the pointers of a list whose ids rise from `least` on and are at most 31
abbrev pub pointers_from : ℕ → List PlainPointer → Option (List Pointer)
pointers_from least [] = Some []
pointers_from least (p ∷ ps) =
    if nat_le least p.id && nat_le p.id 31 then option_map (λ qs. pointer_of p ∷ qs) (pointers_from (p.id + 1) ps) else None

-- the actions by their numbers, which are those of getActionMasked
abbrev pub actions : List MotionAction
actions = Down ∷ Up ∷ Move ∷ Cancel ∷ Outside ∷ PointerDown ∷ PointerUp ∷ []

-- the motion of a message: its device is one, it has an action, and at most 16 pointers, whose ids rise
abbrev pub motion_of : PlainMessage → Option Motion
motion_of m =
    if is_device m.device && nat_le m.count 16
    then option_and_then (λ a.
    option_map (λ ps. record { device = m.device; action = a; index = m.index; flags = m.flags; pointers = ps })
    (pointers_from 0 (take m.count m.pointers))) (slice_get actions m.action)
    else None

-- the key of a message: its device is one, and it goes down or up
abbrev pub key_msg_of : PlainMessage → Option KeyMsg
key_msg_of m =
    if is_device m.device && nat_le m.down 1
    then Some (record { key = record { device = m.device; scan = m.scan; code = m.code; meta = m.meta; down = nat_eq m.down 1 }; flags = m.flags; repeat = m.repeat })
    else None

-- the body of a message, by its kind: 0 for a motion, 1 for a key, 2 for the focus
abbrev pub body_of : PlainMessage → Option Body
body_of m =
    if nat_eq m.kind 0 then option_map MotionBody (motion_of m)
    else if nat_eq m.kind 1 then option_map Key (key_msg_of m)
    else if nat_eq m.kind 2 && nat_le m.focus 1 then Some (Focus (nat_eq m.focus 1))
    else None

-- a message whose numbers are in their ranges; those that its kind does not have are ignored
abbrev pub message_of : PlainMessage → Option Message
message_of m = option_and_then (λ t. option_map (λ b. record { seq = m.seq; moment = t; body = b }) (body_of m)) (moment_of m.moment_us)

-- ready args of a device, by kind: 0 for a motion, 1 for a key, 3 if the device lost events
abbrev pub args_of : PlainMessage → Option Args
args_of m =
    if nat_eq m.kind 0 then option_map args.Motion (motion_of m)
    else if nat_eq m.kind 1 then option_map (λ k. args.Key k.key) (key_msg_of m)
    else if nat_eq m.kind 3 then option_map args.Reset (device_of m.device)
    else None
