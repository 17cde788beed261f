-- The places of the lines of a file.
use Rattle.std.specs.Prelude.{◌≡◌, ℕ, ◌+◌, true, List, [], ◌∷◌, Some, Result, Ok, Err}
use Rattle.stream_text.specs.declared.reading.stream_lines.Place.{Place}
use Rattle.stream_text.specs.StreamFile.{Event, follow, may_end}
use Rattle.stream_text.specs.StreamLine.{CanSay}

-- Lines from line `n` on, the first of them at a place: each has the next number, is a possible line and may be at
-- its place, and the file may end after the last.
abbrev pub ArePlaced : Place → ℕ → List Event → Type 0
ArePlaced place n [] = may_end place ≡ true
ArePlaced place n (e ∷ es) = (e.0 ≡ n) × CanSay e.1 × ((next : Place) × (follow place e.1 ≡ Some next) × ArePlaced next (n + 1) es)

-- the same for remaining lines, if none of them is bad
abbrev pub Places : Place → ℕ → Result (List Event) ℕ → Type 0
Places place n (Ok es) = ArePlaced place n es
Places place n (Err bad) = Unit {0}
