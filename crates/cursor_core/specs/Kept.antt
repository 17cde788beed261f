-- What contracts see of a cursor.
use Rattle.std.specs.Prelude.{ℕ, zero, suc, Bool, List, [], Option, None, Some, option_map, slice_get}
use Rattle.input_types.specs.declared.axis.Pixel.{Pixel}
use Rattle.window_snapshot.specs.declared.window.Window.{Window}
use Rattle.cursor_core.specs.declared.message.HoverMsg.{HoverMsg}

-- what is kept of a channel: how many of its first messages were released, and the remaining messages, oldest first
pub record Row : Type 0 where
  pub gone : ℕ
  pub left : List HoverMsg

-- the last pixel of the display, the cursor, the clock, whether the mouse has moved, the mask of the live channels, the windows, the
-- hovered one, and what is kept of each channel
pub record CursorState : Type 0 where
  pub last : Pixel
  pub at : Pixel
  pub clock : ℕ
  pub moved : Bool
  pub live : ℕ
  pub windows : List Window
  pub hovered : Option ℕ
  pub streams : List Row

-- a channel before its first message
abbrev pub empty_row : Row
empty_row = record { gone = 0; left = [] }

-- the row of a channel; channels are numbered from 1
abbrev pub row_of : List Row → ℕ → Option Row
row_of rows zero = None
row_of rows (suc i) = slice_get rows i

-- the remaining messages of a channel
abbrev pub left_of : List Row → ℕ → Option (List HoverMsg)
left_of rows c = option_map (λ r. r.left) (row_of rows c)

-- how many messages of a row were released
abbrev pub gone_in : Option Row → ℕ
gone_in None = 0
gone_in (Some r) = r.gone

-- how many of the first messages of a channel were released
abbrev pub gone : CursorState → ℕ → ℕ
gone k c = gone_in (row_of k.streams c)
