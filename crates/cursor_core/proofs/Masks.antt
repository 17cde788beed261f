-- Masks of live channels.
use Rattle.std.proofs.Common.{◌≡◌, ℕ, suc, zero, ◌-◌, ◌^◌, ◌<◌, ◌≤◌, Bool, true, false, not, ◌&&◌, ◌||◌, refl, ap, ap₂, sym, ◌∙◌, arith, inl, inr}
use Rattle.std.specs.Prelude.{◌==◌, bit_and, nat_lt, nat_le, min}
use Rattle.std.specs.Int.{bit_at, bit_not, w64}
use Rattle.std.proofs.lemmas.Bool.{cases_eq, eq-eqb, ne_eqb, and_parts, ltb-true, leb-true, leb-false, le-leb, lt-ltb}
use Rattle.std.proofs.lemmas.Nat.Bits.{bit_at_and, bit_at_not, bit_at-lt, bit_at_ones, bit_at_ones_above}
use Rattle.window_snapshot.specs.Mask.{is_channel, mask_has, mask_with}
use Rattle.window_snapshot.proofs.Parts.{mask_has-and}

-- a live channel of a second mask, whose channels are those of which something holds
pub live_of : (a b c : ℕ) (holds : Bool) → mask_has b c ≡ (is_channel c && holds) → mask_has (bit_and a b) c ≡ (mask_has a c && holds)
live_of a b c holds is = mask_has-and a b c ∙ ap (λ t. mask_has a c && t) is ∙ once (is_channel c) (bit_at a (c - 1) == 1) holds
  where
    once : (n s t : Bool) → ((n && s) && (n && t)) ≡ ((n && s) && t)
    once true s t = refl
    once false s t = refl

-- the mask of the first channels
pub first_ones : (n c : ℕ) → n ≤ 64 → mask_has (2 ^ n - 1) c ≡ (nat_lt 0 c && nat_le c n)
first_ones n zero few = refl
first_ones n (suc i) few =
    let some : nat_lt 0 (suc i) ≡ true = lt-ltb 0 (suc i) (omega arith) in
    rw some (by_order (nat_le (suc i) n) refl)
  where
    never : (b : Bool) → (b && false) ≡ false
    never true = refl
    never false = refl

    by_order : (b : Bool) → nat_le (suc i) n ≡ b → (nat_le (suc i) 64 && (bit_at (2 ^ n - 1) (suc i - 1) == 1)) ≡ b
    by_order true e =
        let low : suc i ≤ n = leb-true (suc i) n e in
        ap₂ (λ s t. s && t) (le-leb (suc i) 64 (omega (arith, low, few))) (eq-eqb _ _ (bit_at_ones n (suc i - 1) (omega (arith, low))))
    by_order false e =
        let high : n < suc i = leb-false (suc i) n e in
        let none : bit_at (2 ^ n - 1) (suc i - 1) ≡ 0 = bit_at_ones_above n (suc i - 1) (omega (arith, high)) in
        ap (λ t. nat_le (suc i) 64 && (t == 1)) none ∙ never (nat_le (suc i) 64)
