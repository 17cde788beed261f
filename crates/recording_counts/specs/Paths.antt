-- The first paths that are not in the session, and how many lines have each. Paths stand with the newest first.
use Rattle.std.specs.Prelude.{◌≡◌, ℕ, ◌<◌, Bool, List, [], ◌∷◌, ◌++◌, length, take, filter, get_or, if◌then◌else◌}
use Rattle.std.specs.List.{list_any}
use Rattle.std.specs.Str.{bytes_eq}
use Rattle.recording_counts.specs.Counted.{counted}

-- the path is one of these
abbrev pub is_among : List ℕ → List (List ℕ) → Bool
is_among path paths = list_any (λ p. bytes_eq path p) paths

-- the different paths, in the order in which they came first
abbrev pub firsts : List (List ℕ) → List (List ℕ)
firsts [] = []
firsts (path ∷ past) = if is_among path (firsts past) then firsts past else firsts past ++ path ∷ []

-- how many lines have this path
abbrev pub times : List ℕ → List (List ℕ) → ℕ
times path paths = counted (filter (λ p. bytes_eq p path) paths)

-- what contracts see: paths, and the number at the place of each
pub record PathTable : Type 0 where
  pub paths : List (List ℕ)
  pub counts : List ℕ

-- the table has the first eight different paths, and at the place of each how many lines have it
pub record PathsStandFor (past : List (List ℕ)) (t : PathTable) : Type 0 where
  pub paths_are : t.paths ≡ take 8 (firsts past)
  pub counts_are : (i : ℕ) → i < length t.paths → get_or t.counts i 0 ≡ times (get_or t.paths i []) past
