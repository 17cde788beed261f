-- How many there are, as numbers of 64 bits.
use Rattle.std.specs.Prelude.{ℕ, ◌+◌, ◌-◌, ◌^◌, min, max, List, [], ◌∷◌, length}

-- one more; a number that stands at the greatest of 64 bits stays there
abbrev pub risen : ℕ → ℕ
risen n = min (n + 1) (2 ^ 64 - 1)

-- how many elements a list has, and the greatest number of 64 bits where it has more
abbrev pub counted : {X : Type 0} → List X → ℕ
counted xs = min (length xs) (2 ^ 64 - 1)

-- the greatest of some numbers, and 0 of none
abbrev pub greatest : List ℕ → ℕ
greatest [] = 0
greatest (n ∷ ns) = max n (greatest ns)
