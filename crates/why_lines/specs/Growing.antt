-- Lines at the end of a text.
use Rattle.std.specs.Prelude.{ℕ, List, ◌++◌, flat_map}
use Rattle.why_text.specs.Text.{line}

-- a text with these lines appended, each with the clock in front
abbrev pub with_lines : ℕ → List (List ℕ) → List ℕ → List ℕ
with_lines clock lines text = text ++ flat_map (line clock) lines
