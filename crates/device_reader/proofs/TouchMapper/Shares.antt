-- Shares of pixels.
use Rattle.std.specs.Prelude.{◌≡◌, ℕ, ◌*◌, ◌/◌, ◌<◌, ◌≤◌}
use Rattle.std.proofs.Common.{sym, ◌∙◌, ap, arith, subst}
use Rattle.std.proofs.Math.Nat.{div-lt_iff_lt-mul, mul-lt-mul_of_pos_right, mul-div_cancel, mul_comm}

-- a share is less than the whole
pub share_less : (a n p : ℕ) → a < p → 1 ≤ n → a * n / p < n
share_less a n p lt some =
    let less : a * n < p * n = mul-lt-mul_of_pos_right {m = a} {n = p} {k = n} lt (omega (arith, some)) in
    (div-lt_iff_lt-mul {k = p} {x = a * n} {y = n} (omega (arith, lt))).1 (subst (λ m. a * n < m) (mul_comm p n) less)

-- as many parts as pixels are the pixels
pub share_same : (a n p : ℕ) → p ≡ n → 1 ≤ n → a * n / p ≡ a
share_same a n p same some = ap (λ m. a * n / m) same ∙ mul-div_cancel a {n = n} (omega (arith, some))
