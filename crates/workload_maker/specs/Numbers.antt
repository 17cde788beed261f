-- The random numbers of a workload: Lehmer's generator, in which each number is the previous one times 48271, modulo
-- the prime 2 ^ 31 - 1.
use Rattle.std.specs.Prelude.{ℕ, ◌+◌, ◌*◌, ◌%◌}

-- the number that the numbers of a seed come after: never 0, and below the prime
unfoldable pub first_number : ℕ → ℕ
first_number seed = seed % 2147483646 + 1

-- the number that is drawn after this one
unfoldable pub drawn_after : ℕ → ℕ
drawn_after number = number * 48271 % 2147483647
