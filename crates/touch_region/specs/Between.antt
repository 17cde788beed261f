-- Half-open stretches of numbers.
use Rattle.std.specs.Prelude.{Bool, ◌&&◌, ℤ}
use Rattle.std.specs.Int.RustNames.{int_le, int_lt}

-- x is at or after the first number, and before the second
abbrev pub is_between : ℤ → ℤ → ℤ → Bool
is_between from x until = int_le from x && int_lt x until
