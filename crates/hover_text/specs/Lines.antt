-- How hover messages are spelled.
use Rattle.std.specs.Prelude.{codes, ℕ, List, [], ◌∷◌, ◌++◌, length}
use Rattle.std.specs.Fmt.{decimal, signed_decimal}
use Rattle.input_types.specs.declared.axis.Pixel.{Pixel}
use Rattle.stream_text.specs.Spelling.{channel_line}
use Rattle.cursor_core.specs.declared.message.HoverAction.{HoverAction}
use Rattle.cursor_core.specs.declared.message.HoverAction.TheVariants.{Enter, Move, Exit}
use Rattle.cursor_core.specs.declared.message.HoverMsg.{HoverMsg}

-- an action with the blanks around it
abbrev pub action_word : HoverAction → List ℕ
action_word Enter = codes " HOVER_ENTER "
action_word Move = codes " HOVER_MOVE "
action_word Exit = codes " HOVER_EXIT "

-- a place in a window
unfoldable pub place_text : Pixel → List ℕ
place_text p = signed_decimal p.x ++ codes "," ++ signed_decimal p.y

-- a message: its moment, its action, and its place
unfoldable pub message_line : HoverMsg → List ℕ
message_line m = decimal m.moment ++ action_word m.action ++ place_text m.at ++ codes "\n"

-- a line for each message
abbrev pub message_lines : List HoverMsg → List ℕ
message_lines [] = []
message_lines (m ∷ ms) = message_line m ++ message_lines ms

-- the last line of a section: how many messages the channel has
unfoldable pub end_line : ℕ → ℕ → List ℕ
end_line id messages = codes "end " ++ decimal id ++ codes " " ++ decimal messages ++ codes "\n"

-- the section of a channel
abbrev pub section_text : ℕ → List ℕ → List HoverMsg → List ℕ
section_text id name messages = channel_line id name ++ message_lines messages ++ end_line id (length messages)
