-- The digits of a number below 1,000, three at a time.
use Rattle.std.specs.Prelude.{ℕ, ◌+◌, ◌*◌, ◌/◌, ◌%◌, nat_lt, cond, List, [], ◌∷◌}

-- its three digits, with zeros in front
abbrev pub triple_digits : ℕ → List ℕ
triple_digits n = (48 + n / 100) ∷ (48 + n / 10 % 10) ∷ (48 + n % 10) ∷ []

-- how many digits it has without zeros in front
abbrev pub digit_count : ℕ → ℕ
digit_count n = cond (nat_lt n 10) 1 (cond (nat_lt n 100) 2 3)

-- the count and the digits as the bytes of one number, the lowest one first
abbrev pub triple : ℕ → ℕ
triple n = digit_count n + 256 * (48 + n / 100) + 65536 * (48 + n / 10 % 10) + 16777216 * (48 + n % 10)
