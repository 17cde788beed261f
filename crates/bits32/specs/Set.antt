-- A set of numbers below 32, as contracts see it: a number below 2 ^ 32 whose bit n says whether n is in the set.
use Rattle.std.specs.Prelude.{◌≡◌, ℕ, zero, suc, ◌+◌, ◌-◌, ◌*◌, ◌^◌, ◌<◌, ◌==◌, Bool, true, false, if◌then◌else◌, List, [], ◌∷◌, ◌++◌}
use Rattle.std.specs.Int.{bit_at}

-- whether n is in the set
abbrev pub is_in : ℕ → ℕ → Bool
is_in n set = bit_at set n == 1

-- the set without n
unfoldable pub cleared : ℕ → ℕ → ℕ
cleared n set = set - bit_at set n * 2 ^ n

-- the set and n
unfoldable pub marked : ℕ → ℕ → ℕ
marked n set = cleared n set + 2 ^ n

-- the numbers of the set that are below n, in rising order
unfoldable pub members_below : ℕ → ℕ → List ℕ
members_below zero set = []
members_below (suc n) set = if is_in n set then members_below n set ++ n ∷ [] else members_below n set

-- the numbers of the set, in rising order
abbrev pub members : ℕ → List ℕ
members set = members_below 32 set

-- all 32 numbers are in the set
abbrev pub IsFull : ℕ → Type 0
IsFull set = (n : ℕ) → n < 32 → is_in n set ≡ true

-- n is the least number below 32 that is not in the set
pub record IsLeastUnmarked (set n : ℕ) : Type 0 where
  pub below : n < 32
  pub unmarked : is_in n set ≡ false
  pub least : (k : ℕ) → k < n → is_in k set ≡ true
