-- Numbers, sets and rows as words.
use Rattle.std.specs.Prelude.{codes, if◌then◌else◌, ℕ, zero, suc, Bool, List, [], ◌∷◌, ◌++◌, filter, Option, Some, None}
use Rattle.std.specs.Fmt.{decimal}
use Rattle.routing_rules.specs.declared.choice.Row.{Row}
use Rattle.routing_rules.specs.declared.choice.Row.TheVariants.{First, Unsplit, Nothing, Whole, Split}
use Rattle.window_snapshot.specs.Mask.{is_channel}
use Rattle.dispatch_history.specs.Effects.{channels}

-- numbers joined by commas
abbrev pub joined : List ℕ → List ℕ
joined [] = []
joined (n ∷ []) = decimal n
joined (n ∷ m ∷ ns) = decimal n ++ codes "," ++ joined (m ∷ ns)

-- a set: its numbers, which rise, joined by commas, or `-` where there is none
abbrev pub set_word : List ℕ → List ℕ
set_word [] = codes "-"
set_word (n ∷ ns) = joined (n ∷ ns)

-- a channel by its number, or `-` if there is none
abbrev pub channel_word : Option ℕ → List ℕ
channel_word None = codes "-"
channel_word (Some c) = decimal c

-- a window by its channel; a wall, which has none, by `wall`
abbrev pub window_word : ℕ → List ℕ
window_word c = if is_channel c then decimal c else codes "wall"

-- the window, or `-` if there is none
abbrev pub some_window_word : Option ℕ → List ℕ
some_window_word None = codes "-"
some_window_word (Some c) = window_word c

-- the channels that pass a test, in rising order
unfoldable pub channels_that : (ℕ → Bool) → List ℕ
channels_that test = filter test (channels 64)

-- a set of channels
abbrev pub windows_word : (ℕ → Bool) → List ℕ
windows_word test = set_word (channels_that test)

-- the numbers below n
abbrev pub below : ℕ → List ℕ
below zero = []
below (suc n) = below n ++ n ∷ []

-- the pointer ids that pass a test, in rising order: ids are 0 to 31
unfoldable pub ids_that : (ℕ → Bool) → List ℕ
ids_that test = filter test (below 32)

-- a row of the table of the choice
abbrev pub row_word : Row → List ℕ
row_word First = codes "first"
row_word Unsplit = codes "unsplit"
row_word Nothing = codes "nothing"
row_word Whole = codes "whole"
row_word Split = codes "split"
