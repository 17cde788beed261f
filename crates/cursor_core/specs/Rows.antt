-- Streams of channels as rows, that of channel 1 first.
use Rattle.std.specs.Prelude.{◌≡◌, ℕ, zero, suc, ◌+◌, ◌≤◌, List, [], ◌∷◌, ◌++◌, drop, length, Option, Some, None}
use Rattle.cursor_core.specs.declared.message.HoverMsg.{HoverMsg}
use Rattle.cursor_core.specs.Kept.{Row}

-- a row keeps a stream: some of its first messages were released, and the others remain
pub record Keeps (stream : List HoverMsg) (r : Row) : Type 0 where
  pub few : r.gone ≤ length stream
  pub left_is : r.left ≡ drop r.gone stream

-- a channel has a row exactly if it has a stream, and the row keeps it
abbrev pub HasRow : Option (List HoverMsg) → Option Row → Type 0
HasRow None None = Unit {0}
HasRow None (Some r) = ⊥
HasRow (Some stream) None = ⊥
HasRow (Some stream) (Some r) = Keeps stream r

-- a channel is sent a message
abbrev pub row_with : List HoverMsg → Row → Row
row_with ms r = record { gone = r.gone; left = r.left ++ ms }

-- each channel from channel `w` on is sent so
abbrev pub rows_with : (ℕ → List HoverMsg) → ℕ → List Row → List Row
rows_with f w [] = []
rows_with f w (row ∷ rows) = row_with (f w) row ∷ rows_with f (suc w) rows

-- all messages of a channel are released
abbrev pub row_gone : Row → Row
row_gone r = record { gone = r.gone + length r.left; left = [] }

-- the row at an index is released, if there is one
abbrev pub gone_at : ℕ → List Row → List Row
gone_at i [] = []
gone_at zero (row ∷ rows) = row_gone row ∷ rows
gone_at (suc i) (row ∷ rows) = row ∷ gone_at i rows

-- the row of a channel is released, if it has one; channels are numbered from 1
abbrev pub rows_gone : ℕ → List Row → List Row
rows_gone zero rows = rows
rows_gone (suc i) rows = gone_at i rows
