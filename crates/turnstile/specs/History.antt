-- A history of answered calls, newest first, and the calls of a number in it.
use Rattle.std.specs.Prelude.{◌≡◌, ℕ, ◌==◌, List, [], ◌∷◌, ◌++◌, length, map, if◌then◌else◌}

-- an answered call: the number of the seat, the call and the reply
abbrev pub Entry : Type 0 → Type 0 → Type 0
Entry C R = ℕ × C × R

module _ {C R : Type 0} where
  -- the calls of a number, newest first, each with its place and its reply
  abbrev pub calls_by : ℕ → List (Entry C R) → List (ℕ × C × R)
  calls_by k [] = []
  calls_by k (e ∷ h) = if e.0 == k then (length h, e.1, e.2) ∷ calls_by k h else calls_by k h

  -- a history begins with these entries
  abbrev pub IsStart : List (Entry C R) → List (Entry C R) → Type 0
  IsStart start h = (later : List (Entry C R)) × (h ≡ later ++ start)

  -- these calls as entries of number 0
  abbrev pub of_zero : List (ℕ × C × R) → List (Entry C R)
  of_zero own = map (λ e. (0, e.1, e.2)) own
