-- Messages as C gets them.
use Rattle.std.specs.Prelude.{ℕ, pos, List, ◌++◌, map, drop, length, replicate, Option, Some, None}
use Rattle.input_types.specs.Action.{action_number}
use Rattle.input_types.specs.declared.key.KeyMsg.{KeyMsg}
use Rattle.input_types.specs.declared.message.Body.{Body}
use Rattle.input_types.specs.declared.message.Body.TheVariants.{Motion as MotionBody, Key, Focus}
use Rattle.input_types.specs.declared.message.Message.{Message}
use Rattle.input_types.specs.declared.motion.Motion.{Motion}
use Rattle.input_types.specs.declared.pointer.Pointer.{Pointer}
use Rattle.live_input.specs.declared.client.Client.{Client}
use Rattle.live_input.specs.declared.client.Seat.{Seat}
use Rattle.live_input.specs.Seats.{user_data_of}
use Rattle.plain_calls.specs.Numbers.{flag}
use Rattle.plain_calls.specs.declared.message.PlainMessage.{PlainMessage}
use Rattle.plain_calls.specs.declared.message.PlainPointer.{PlainPointer}

-- a pointer by its numbers
abbrev pub plain_pointer : Pointer → PlainPointer
plain_pointer p = record { x = p.at.x; y = p.at.y; id = p.id }

-- an unused pointer slot
abbrev pub no_pointer : PlainPointer
no_pointer = record { x = pos 0; y = pos 0; id = 0 }

-- sixteen pointer slots, used ones first
abbrev pub places_of : List Pointer → List PlainPointer
places_of ps = map plain_pointer ps ++ drop (length ps) (replicate 16 no_pointer)

-- a message with only its number and its moment filled in
abbrev pub numbered : (seq moment : ℕ) → PlainMessage
numbered seq moment = record {
  seq = seq;
  moment_us = moment;
  kind = 0;
  flags = 0;
  meta = 0;
  repeat = 0;
  scan = 0;
  code = 0;
  device = 0;
  action = 0;
  index = 0;
  count = 0;
  down = 0;
  focus = 0;
  pointers = replicate 16 no_pointer;
  user_data = 0;
}

-- a message with this motion
abbrev pub with_motion : Motion → PlainMessage → PlainMessage
with_motion m p = record p {
  kind = 0;
  flags = m.flags;
  device = m.device;
  action = action_number m.action;
  index = m.index;
  count = length m.pointers;
  pointers = places_of m.pointers;
}

-- a message with this key
abbrev pub with_key : KeyMsg → PlainMessage → PlainMessage
with_key k p = record p {
  kind = 1;
  flags = k.flags;
  meta = k.key.meta;
  repeat = k.repeat;
  scan = k.key.scan;
  code = k.key.code;
  device = k.key.device;
  down = flag k.key.down;
}

-- a message with this body; the numbers that its kind does not have are 0
abbrev pub with_body : Body → PlainMessage → PlainMessage
with_body (MotionBody m) p = with_motion m p
with_body (Key k) p = with_key k p
with_body (Focus has) p = record p { kind = 2; focus = flag has }

-- a message by its numbers
abbrev pub plain_message : Message → PlainMessage
plain_message m = with_body m.body (numbered m.seq m.moment)

-- a message with the number that its client was opened with, if there is one
abbrev pub with_user_data : Option ℕ → PlainMessage → PlainMessage
with_user_data None p = p
with_user_data (Some n) p = record p { user_data = n }

-- a message as a client gets it: with the number that the client was opened with
abbrev pub told_to : List Seat → Client → Message → PlainMessage
told_to seats k m = with_user_data (user_data_of seats k) (plain_message m)
