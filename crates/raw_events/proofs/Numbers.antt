-- Bounds on numbers of so many digits.
use Rattle.std.proofs.Common.{ℕ, ◌^◌, ◌<◌, ◌≤◌, arith, Option, Some, None}
use Rattle.std.specs.Prelude.{IfSome}
use Rattle.std.proofs.Math.Nat.{pow-le-pow_right}

-- a number of fewer than 12 decimal digits, and one of fewer than 8 hexadecimal ones
pub decimal_room : (n i : ℕ) → i < 12 → n < 10 ^ i → n < 10 ^ 11
decimal_room n i h b = omega (arith, pow-le-pow_right {n = 10} (omega arith) (let k : i ≤ 11 = omega arith in k))

pub hex_room : (n i : ℕ) → i < 8 → n < 16 ^ i → n < 16 ^ 7
hex_room n i h b = omega (arith, pow-le-pow_right {n = 16} (omega arith) (let k : i ≤ 7 = omega arith in k))

pub within_power : {X : Type 0} (o : Option (ℕ × X)) (i k : ℕ) → i ≤ k → IfSome o (λ read. read.0 < 10 ^ i) → IfSome o (λ read. read.0 < 10 ^ k)
within_power None i k h b = b
within_power (Some read) i k h b = omega (arith, b, pow-le-pow_right {n = 10} (omega arith) h)
