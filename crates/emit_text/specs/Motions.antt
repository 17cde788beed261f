-- Which motions of a section are written, and what is down after each of them.
use Rattle.std.specs.Prelude.{ℕ, ◌+◌, nat_eq, if◌then◌else◌, List, [], ◌∷◌, map, Option, Some, None}
use Rattle.std.specs.List.{remove}
use Rattle.std.specs.Option.{option_map}
use Rattle.input_types.specs.declared.message.Body.{Body}
use Rattle.input_types.specs.declared.message.Body.TheVariants.{Motion, Key, Focus}
use Rattle.input_types.specs.declared.message.Message.{Message}
use Rattle.input_types.specs.declared.motion.MotionAction.{MotionAction}
use Rattle.input_types.specs.declared.motion.MotionAction.TheVariants.{Down, Up, Move, Cancel, Outside, PointerDown, PointerUp}
use Rattle.input_types.specs.declared.pointer.Pointer.{Pointer}
use Rattle.touch_writer.specs.declared.want.Want.{Want}

-- the contact that a pointer is
abbrev pub contact : Pointer → Want
contact p = record { id = p.id; x = p.at.x; y = p.at.y }

-- What is down after an action, of the contacts that its motion lists: all of them, all except the one at the index,
-- or none. An Outside says nothing about what is down.
abbrev pub down_after : MotionAction → ℕ → List Want → Option (List Want)
down_after Down index listed = Some listed
down_after PointerDown index listed = Some listed
down_after Move index listed = Some listed
down_after PointerUp index listed = Some (remove listed index)
down_after Up index listed = Some []
down_after Cancel index listed = Some []
down_after Outside index listed = None

-- what is down on a device after a message, if that is a motion of the device that determines it
abbrev pub wanted_after : ℕ → Body → Option (List Want)
wanted_after device (Motion m) = if nat_eq m.device device then down_after m.action m.index (map contact m.pointers) else None
wanted_after device (Key m) = None
wanted_after device (Focus b) = None

-- a motion that is written: its line, its moment, and what is down after it
pub record Taken : Type 0 where
  pub line : ℕ
  pub moment : ℕ
  pub want : List Want

-- the motion that a message is, if it is written
abbrev pub taken_at : ℕ → ℕ → Message → Option Taken
taken_at device line m = option_map (λ want. record { line = line; moment = m.moment; want = want }) (wanted_after device m.body)

-- a motion in front of others, if there is one
abbrev pub in_front : Option Taken → List Taken → List Taken
in_front None ts = ts
in_front (Some t) ts = t ∷ ts

-- the motions of a device that are written, of messages from line `line` on
abbrev pub taken : ℕ → ℕ → List Message → List Taken
taken device line [] = []
taken device line (m ∷ ms) = in_front (taken_at device line m) (taken device (line + 1) ms)
