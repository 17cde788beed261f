-- The lines of a text.
use Rattle.std.specs.Prelude.{ℕ, ◌==◌, Bool, true, false, if◌then◌else◌, List, [], ◌∷◌}

-- a line without its newline, and whether a newline ends it
abbrev pub Line : Type 0
Line = List ℕ × Bool

-- a byte more in front of the first line
abbrev pub with_front : ℕ → List Line → List Line
with_front b [] = (b ∷ [], false) ∷ []
with_front b (line ∷ lines) = (b ∷ line.0, line.1) ∷ lines

-- the lines of a text; only the last one may have no newline
abbrev pub lines_of : List ℕ → List Line
lines_of [] = []
lines_of (b ∷ bs) = if b == 10 then ([], true) ∷ lines_of bs else with_front b (lines_of bs)
