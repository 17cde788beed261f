-- What is in both of two masks, what is left of a mask, and the first channel of one.
use Rattle.std.proofs.Common.{◌≡◌, ℕ, ◌+◌, ◌-◌, ◌^◌, ◌<◌, ◌≤◌, Bool, true, false, not, ◌&&◌, ◌||◌, refl, ap, ap₂, sym, ◌∙◌, arith, inl, inr}
use Rattle.std.specs.Prelude.{◌==◌, bit_and, nat_lt, nat_le, min}
use Rattle.std.specs.Int.{bit_at, bit_not, w64, trailing_zeros}
use Rattle.std.proofs.lemmas.Bool.{cases_eq, cases_lt, eq-eqb, ne_eqb, eqb-true, and_parts, and_from, ltb-true, leb-true, lt-ltb, le-leb}
use Rattle.std.proofs.lemmas.Nat.Bits.{bit_at_and, bit_at_not, bit_at-lt, bit_at-trailing_zeros}
use Rattle.window_snapshot.specs.Mask.{is_channel, mask_has, mask_less, mask_with}
use Rattle.window_snapshot.proofs.Masks.{mask_has-with, mask_has-zero}

both_bits : (m n : ℕ) → m < 2 → n < 2 → (min m n == 1) ≡ ((m == 1) && (n == 1))
both_bits m n p q =
    elim (cases_eq m 0) [
      | inl z ↦ elim (cases_eq n 0) [ inl y ↦ rw (z, y) refl | inr y ↦ let o : n ≡ 1 = omega (arith, y, q) in rw (z, o) refl ]
      | inr z ↦
          let u : m ≡ 1 = omega (arith, z, p) in
          elim (cases_eq n 0) [ inl y ↦ rw (u, y) refl | inr y ↦ let o : n ≡ 1 = omega (arith, y, q) in rw (u, o) refl ]
    ]

-- a channel is in both of two masks
pub mask_has-and : (a b c : ℕ) → mask_has (bit_and a b) c ≡ (mask_has a c && mask_has b c)
mask_has-and a b c =
    ap (λ t. is_channel c && t) (ap (λ n. n == 1) (bit_at_and a b (c - 1)) ∙ both_bits _ _ (bit_at-lt a (c - 1)) (bit_at-lt b (c - 1)))
    ∙ spread (is_channel c) _ _
  where
    spread : (k t u : Bool) → (k && (t && u)) ≡ ((k && t) && (k && u))
    spread true t u = refl
    spread false t u = refl

-- a bit of a number turned over
turned : (b i : ℕ) → b < 2 ^ 64 → i < 64 → (bit_at (bit_not w64 b) i == 1) ≡ not (bit_at b i == 1)
turned b i low within =
    let other = bit_at_not w64 b i low within in
    let few = bit_at-lt b i in
    elim (cases_eq (bit_at b i) 1) [
      | inl p ↦ ne_eqb _ _ (λ h. absurd (omega (arith, other, p, h))) ∙ sym (ap not (eq-eqb _ _ p))
      | inr p ↦ eq-eqb _ _ (omega (arith, other, few, p)) ∙ sym (ap not (ne_eqb _ _ p))
    ]

-- a channel that is not in a mask is in the mask turned over
in_other : (b c : ℕ) → b < 2 ^ 64 → mask_has (bit_not w64 b) c ≡ (is_channel c && not (mask_has b c))
in_other b c low = by_channel (is_channel c) refl
  where
    by_channel : (k : Bool) → is_channel c ≡ k → (k && (bit_at (bit_not w64 b) (c - 1) == 1)) ≡ (k && not (k && (bit_at b (c - 1) == 1)))
    by_channel true e =
        let p = and_parts (nat_lt 0 c) (nat_le c 64) e in
        turned b (c - 1) low (omega (arith, ltb-true 0 c p.0, leb-true c 64 p.1))
    by_channel false e = refl

-- a mask without the channels of another one
pub mask_has-less : (a b c : ℕ) → b < 2 ^ 64 → mask_has (mask_less a b) c ≡ (not (mask_has b c) && mask_has a c)
mask_has-less a b c low =
    mask_has-and a (bit_not w64 b) c
    ∙ ap (λ t. mask_has a c && t) (in_other b c low)
    ∙ sorted (is_channel c) (bit_at a (c - 1) == 1) (mask_has b c)
  where
    sorted : (n s t : Bool) → ((n && s) && (n && not t)) ≡ (not t && (n && s))
    sorted true true true = refl
    sorted true true false = refl
    sorted true false true = refl
    sorted true false false = refl
    sorted false s true = refl
    sorted false s false = refl

same_number : (k c : ℕ) → (k == c) ≡ (c == k)
same_number k c = elim (cases_eq k c) [ inl e ↦ eq-eqb k c e ∙ sym (eq-eqb c k (sym e)) | inr ne ↦ ne_eqb k c ne ∙ sym (ne_eqb c k (λ e. ne (sym e))) ]

-- a mask without a channel
pub mask_has-one_less : (a b k c : ℕ) → b < 2 ^ 64 → b ≡ mask_with 0 k → mask_has (mask_less a b) c ≡ (not (c == k) && mask_has a c)
mask_has-one_less a b k c low is =
    mask_has-less a b c low
    ∙ ap (λ t. not t && mask_has a c)
    (ap (λ m. mask_has m c) is ∙ mask_has-with 0 k c
    ∙ ap₂ (λ s t. s || (is_channel c && t)) (mask_has-zero c) (same_number k c))
    ∙ sorted (is_channel c) (bit_at a (c - 1) == 1) (c == k)
  where
    sorted : (n s t : Bool) → (not (false || (n && t)) && (n && s)) ≡ (not t && (n && s))
    sorted true s t = refl
    sorted false s true = refl
    sorted false s false = refl

-- the lowest bit of a mask stands for a channel of it
pub has_first : (mask : ℕ) → 0 < mask → mask < 2 ^ 64 → (mask_has mask (trailing_zeros w64 mask + 1) ≡ true) × (trailing_zeros w64 mask + 1 ≤ 64)
has_first mask some low = at (trailing_zeros w64 mask) (bit_at-trailing_zeros w64 mask some low)
  where
    at : (k : ℕ) → (k < 64) × (bit_at mask k ≡ 1) × ((i : ℕ) → i < k → bit_at mask i ≡ 0) → (mask_has mask (k + 1) ≡ true) × (k + 1 ≤ 64)
    at k b =
        let back : k + 1 - 1 ≡ k = omega arith in
        let bit : bit_at mask (k + 1 - 1) ≡ 1 = ap (bit_at mask) back ∙ b.1 in
        (and_from _ _ (and_from _ _ (lt-ltb 0 (k + 1) (omega arith)) (le-leb (k + 1) 64 (omega (arith, b.0)))) (eq-eqb _ _ bit), omega (arith, b.0))

-- and none of its channels has a lower number
pub none_before : (mask c : ℕ) → 0 < mask → mask < 2 ^ 64 → mask_has mask c ≡ true → trailing_zeros w64 mask + 1 ≤ c
none_before mask c some low e = at (trailing_zeros w64 mask) (bit_at-trailing_zeros w64 mask some low)
  where
    at : (k : ℕ) → (k < 64) × (bit_at mask k ≡ 1) × ((i : ℕ) → i < k → bit_at mask i ≡ 0) → k + 1 ≤ c
    at k b =
        let p = and_parts (is_channel c) (bit_at mask (c - 1) == 1) e in
        let from : 0 < c = ltb-true 0 c (and_parts (nat_lt 0 c) (nat_le c 64) p.0).0 in
        let set : bit_at mask (c - 1) ≡ 1 = eqb-true _ _ p.1 in
        elim (cases_lt (c - 1) k) [
          | inl lt ↦ absurd (let clear : bit_at mask (c - 1) ≡ 0 = b.2 (c - 1) lt in omega (arith, set, clear))
          | inr ge ↦ omega (arith, from, ge)
        ]
