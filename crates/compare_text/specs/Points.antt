-- The sections of a stream file, and their points: messages without the moves that are not canceled, unless each move
-- is a point too. The next message that lists a pointer shows where it moved.
use Rattle.std.specs.Prelude.{ℕ, ◌+◌, ◌-◌, ◌&&◌, ◌||◌, not, nat_eq, Bool, true, false, List, [], ◌∷◌, map, filter}
use Rattle.input_types.specs.declared.message.Body.{Body}
use Rattle.input_types.specs.declared.message.Body.TheVariants.{Motion as MotionBody, Key, Focus}
use Rattle.input_types.specs.declared.message.Message.{Message}
use Rattle.input_types.specs.declared.motion.MotionAction.{MotionAction}
use Rattle.input_types.specs.declared.motion.MotionAction.TheVariants.{Down, Up, Move, Cancel, Outside, PointerDown, PointerUp}
use Rattle.input_types.specs.Gestures.{flag_canceled, unmarked}
use Rattle.stream_text.specs.StreamFile.{Stream}

-- the action of a move
abbrev pub is_move : MotionAction → Bool
is_move Move = true
is_move Down = false
is_move Up = false
is_move Cancel = false
is_move Outside = false
is_move PointerDown = false
is_move PointerUp = false

-- a message is a point if each move is one, and otherwise unless it is a move that is not canceled
abbrev pub is_point : (each_move : Bool) → Body → Bool
is_point each_move (MotionBody m) = each_move || not (is_move m.action && not (nat_eq (unmarked m.flags) flag_canceled))
is_point each_move (Key m) = true
is_point each_move (Focus b) = true

-- messages that stand from a line on, each with its line
abbrev pub numbered_from : ℕ → List Message → List (ℕ × Message)
numbered_from line [] = []
numbered_from line (m ∷ ms) = (line, m) ∷ numbered_from (line + 1) ms

-- a section: its channel, its first line, and its messages, each with its line
pub record Section : Type 0 where
  pub id : ℕ
  pub line : ℕ
  pub messages : List (ℕ × Message)

-- a section of a file, whose first message follows its first line
abbrev pub section_of : Stream → Section
section_of s = record { id = s.id; line = s.first_line - 1; messages = numbered_from s.first_line s.messages }

-- those of a file
abbrev pub sections_of : List Stream → List Section
sections_of streams = map section_of streams

-- the points of messages
abbrev pub points_in : (each_move : Bool) → List (ℕ × Message) → List (ℕ × Message)
points_in each_move messages = filter (λ m. is_point each_move m.1.body) messages
