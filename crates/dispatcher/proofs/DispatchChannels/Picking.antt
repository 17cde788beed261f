-- Masks without a channel, and the first channel of a mask.
use Rattle.std.proofs.Common.{◌≡◌, ℕ, zero, suc, ◌+◌, ◌-◌, ◌^◌, ◌<◌, ◌≤◌, ◌==◌, min, Bool, true, false, not, ◌&&◌, ◌||◌, refl, sym, ap, ap₂, ◌∙◌, arith, inl, inr}
use Rattle.std.specs.Prelude.{bit_and}
use Rattle.std.specs.Int.{bit_at, bit_not, w64, trailing_zeros}
use Rattle.std.proofs.Math.Nat.{zero-min}
use Rattle.std.proofs.lemmas.Nat.{and_le_l}
use Rattle.std.proofs.lemmas.Nat.Bits.{bit_at_and, bit_at-lt, bit_at-trailing_zeros}
use Rattle.std.proofs.lemmas.Bool.{cases_eq, eq-eqb, and_parts, and_from, both_ways, lt-ltb, le-leb, ltb-true, leb-true}
use Rattle.window_snapshot.specs.Mask.{is_channel, mask_has, mask_with}
use Rattle.window_snapshot.proofs.Masks.{mask_has_channel, mask_has-with}
use Rattle.focus_resolver.proofs.Masks.{mask_has-without, one_channel}
use Rattle.dispatcher.specs.DispatchTables.Masks.{mask_less}
use Rattle.dispatcher.proofs.DispatchTables.Masking.{mask_with-low}

-- a channel of a mask has a number from 1 to 64
pub channel_low : (mask c : ℕ) → mask_has mask c ≡ true → 1 ≤ c
channel_low mask c e = ltb-true 0 c (and_parts _ _ (mask_has_channel mask c e)).0

pub channel_high : (mask c : ℕ) → mask_has mask c ≡ true → c ≤ 64
channel_high mask c e = leb-true c 64 (and_parts _ _ (mask_has_channel mask c e)).1

-- the lowest bit of a mask stands for a channel of it
pub has_first : (mask : ℕ) → 0 < mask → mask < 2 ^ 64 → (mask_has mask (trailing_zeros w64 mask + 1) ≡ true) × (trailing_zeros w64 mask + 1 ≤ 64)
has_first mask some low = at (trailing_zeros w64 mask) (bit_at-trailing_zeros w64 mask some low)
  where
    at : (k : ℕ) → (k < 64) × (bit_at mask k ≡ 1) × ((i : ℕ) → i < k → bit_at mask i ≡ 0) → (mask_has mask (k + 1) ≡ true) × (k + 1 ≤ 64)
    at k b =
        let back : k + 1 - 1 ≡ k = omega arith in
        let bit : bit_at mask (k + 1 - 1) ≡ 1 = ap (bit_at mask) back ∙ b.1 in
        (and_from _ _ (and_from _ _ (lt-ltb 0 (k + 1) (omega arith)) (le-leb (k + 1) 64 (omega (arith, b.0)))) (eq-eqb _ _ bit), omega (arith, b.0))

-- a mask without one channel has the others
pub has-without : (other mask k c : ℕ) → mask_has other k ≡ true → mask_has (mask_less mask (mask_with 0 k)) c ≡ (mask_has mask c && not (c == k))
has-without other mask k c e =
    mask_has-without mask (mask_with 0 k) c (mask_with-low 0 k (omega arith)) ∙ ap (λ b. mask_has mask c && not b) (one_channel other k c e)

-- and is a lesser number
pub less_without : (mask k : ℕ) → mask_has mask k ≡ true → mask_less mask (mask_with 0 k) < mask
less_without mask k e =
    let le : mask_less mask (mask_with 0 k) ≤ mask = and_le_l mask (bit_not w64 (mask_with 0 k)) in
    let gone : mask_has (mask_less mask (mask_with 0 k)) k ≡ false = has-without mask mask k k e ∙ away (mask_has mask k) (k == k) (eq-eqb k k refl) in
    elim (cases_eq (mask_less mask (mask_with 0 k)) mask) [
      | inl same ↦ absurd (both_ways (mask_has mask k) (sym (ap (λ m. mask_has m k) same) ∙ gone) e)
      | inr ne ↦ omega arith
    ]
  where
    away : (m s : Bool) → s ≡ true → (m && not s) ≡ false
    away true true s = refl
    away false s e = refl
    away true false e = sym e

-- the mask of one channel has it
pub has_one : (c : ℕ) → 1 ≤ c → c ≤ 64 → mask_has (mask_with 0 c) c ≡ true
has_one c low high =
    let of_one : is_channel c ≡ true = and_from _ _ (lt-ltb 0 c (omega arith)) (le-leb c 64 high) in
    mask_has-with 0 c c ∙ ap₂ (λ k t. mask_has 0 c || (k && t)) of_one (eq-eqb c c refl) ∙ or_true (mask_has 0 c)
  where
    or_true : (b : Bool) → (b || true) ≡ true
    or_true true = refl
    or_true false = refl

both_bits : (a b : ℕ) → a < 2 → b < 2 → (min a b == 1) ≡ ((a == 1) && (b == 1))
both_bits zero b x y = rw (zero-min b) refl
both_bits (suc zero) zero x y = refl
both_bits (suc zero) (suc zero) x y = refl
both_bits (suc zero) (suc (suc b)) x y = absurd (omega (arith, y))
both_bits (suc (suc a)) b x y = absurd (omega (arith, x))

-- what is in both of two masks
pub mask_has-and : (a b c : ℕ) → mask_has (bit_and a b) c ≡ (mask_has a c && mask_has b c)
mask_has-and a b c =
    ap (λ n. is_channel c && (n == 1)) (bit_at_and a b (c - 1))
    ∙ ap (λ t. is_channel c && t) (both_bits (bit_at a (c - 1)) (bit_at b (c - 1)) (bit_at-lt a (c - 1)) (bit_at-lt b (c - 1)))
    ∙ share (is_channel c) (bit_at a (c - 1) == 1) (bit_at b (c - 1) == 1)
  where
    share : (k x y : Bool) → (k && (x && y)) ≡ ((k && x) && (k && y))
    share true x y = refl
    share false x y = refl
