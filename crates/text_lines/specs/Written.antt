-- How a number is written after some words.
use Rattle.std.specs.Prelude.{ℕ, List, ◌++◌}
use Rattle.std.specs.Fmt.{decimal}

-- some words, then a number
unfoldable pub labeled : List ℕ → ℕ → List ℕ
labeled words n = words ++ decimal n
