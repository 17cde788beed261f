-- The least number of a set, and the set without it: `n & (n - 1)`.
use Rattle.std.proofs.Common.{◌≡◌, ◌≢◌, ℕ, zero, suc, ◌-◌, ◌/◌, ◌^◌, ◌<◌, ◌≤◌, ◌==◌, ◌&&◌, not, true, false, ◌∙◌, refl, sym, ap, inl, inr, arith}
use Rattle.std.specs.Prelude.{min}
use Rattle.std.specs.Int.{bit_at, w32, trailing_zeros}
use Rattle.std.specs.Int.RustNames.{bit_and}
use Rattle.std.proofs.lemmas.Bool.{cases_eq, cases_lt, eq-eqb, ne_eqb, eqb-true}
use Rattle.std.proofs.lemmas.Nat.Bits.{bit_at_lowest, bit_at-suc, bit_at-zero, bit_at_and, bit_at-lt, bit_at-trailing_zeros}
use Rattle.bits32.specs.Set.{is_in}

-- the set without its least number
abbrev pub without_least : ℕ → ℕ
without_least n = bit_and n (n - 1)

-- t is the least number of the set n
pub record IsLeast (n t : ℕ) : Type 0 where
  pub has : bit_at n t ≡ 1
  pub below : (j : ℕ) → j < t → bit_at n j ≡ 0

-- the half of a set has all places one down
half_least : (n t : ℕ) → IsLeast n (suc t) → IsLeast (n / 2) t
half_least n t h = record {
  has = sym (bit_at-suc n t) ∙ h.has;
  below = λ j lt. sym (bit_at-suc n j) ∙ h.below (suc j) (omega (arith, lt));
}

-- a set with a number is not 0
some_bit : (n t : ℕ) → bit_at n t ≡ 1 → 0 < n
some_bit zero t h = absurd (omega (arith, h, bit_at-zero t))
some_bit (suc n) t h = omega arith

-- one less has the half one less, where the lowest bit is 0
half_less : (n t : ℕ) → IsLeast n (suc t) → (n - 1) / 2 ≡ n / 2 - 1
half_less n t h = omega (arith, some_bit n (suc t) h.has, bit_at_lowest n, h.below 0 (omega arith))

-- one less has a 0 there, and the same bits above
least_of_less : (t n : ℕ) → IsLeast n t → bit_at (n - 1) t ≡ 0
least_of_less zero n h = omega (arith, bit_at_lowest (n - 1), bit_at_lowest n, h.has)
least_of_less (suc t) n h =
    bit_at-suc (n - 1) t ∙ ap (λ m. bit_at m t) (half_less n t h) ∙ least_of_less t (n / 2) (half_least n t h)

above_of_less : (t n i : ℕ) → IsLeast n t → t < i → bit_at (n - 1) i ≡ bit_at n i
above_of_less t n zero h lt = absurd (omega (arith, lt))
above_of_less zero n (suc i) h lt =
    let half : (n - 1) / 2 ≡ n / 2 = omega (arith, bit_at_lowest n, h.has) in
    bit_at-suc (n - 1) i ∙ ap (λ m. bit_at m i) half ∙ sym (bit_at-suc n i)
above_of_less (suc t) n (suc i) h lt =
    bit_at-suc (n - 1) i ∙ ap (λ m. bit_at m i) (half_less n t h)
    ∙ above_of_less t (n / 2) i (half_least n t h) (omega (arith, lt)) ∙ sym (bit_at-suc n i)

-- with one less no other bit is lost
same_bit : (n t i : ℕ) → IsLeast n t → i ≢ t → bit_at (without_least n) i ≡ bit_at n i
same_bit n t i h ne =
    elim (cases_lt i t) [
      | inl lt ↦ omega (arith, bit_at_and n (n - 1) i, h.below i lt)
      | inr ge ↦
          let above : t < i = omega (arith, ge, ne) in
          omega (arith, bit_at_and n (n - 1) i, above_of_less t n i h above)
    ]

-- all but its least number is in it
pub is_in_less : (n t k : ℕ) → IsLeast n t → is_in k (without_least n) ≡ (not (k == t) && is_in k n)
is_in_less n t k h =
    elim (cases_eq k t) [
      | inl e ↦
          let gone : bit_at (without_least n) k ≡ 0 =
          ap (bit_at (without_least n)) e ∙ bit_at_and n (n - 1) t ∙ omega (arith, least_of_less t n h) in
          ne_eqb _ _ (λ one. absurd (omega (arith, one, gone))) ∙ sym (ap (λ b. not b && is_in k n) (eq-eqb k t e))
      | inr ne ↦
          ap (λ b. b == 1) (same_bit n t k h ne) ∙ sym (ap (λ b. not b && is_in k n) (ne_eqb k t ne))
    ]

-- a bit of both of two numbers, as a test
both_bits : (m n : ℕ) → m < 2 → n < 2 → (min m n == 1) ≡ ((m == 1) && (n == 1))
both_bits zero zero p q = refl
both_bits zero (suc zero) p q = refl
both_bits zero (suc (suc n)) p q = absurd (omega (arith, q))
both_bits (suc zero) zero p q = refl
both_bits (suc zero) (suc zero) p q = refl
both_bits (suc zero) (suc (suc n)) p q = absurd (omega (arith, q))
both_bits (suc (suc m)) n p q = absurd (omega (arith, p))

-- a number is in both of two sets
pub is_in_and : (a b k : ℕ) → is_in k (bit_and a b) ≡ (is_in k a && is_in k b)
is_in_and a b k = ap (λ n. n == 1) (bit_at_and a b k) ∙ both_bits _ _ (bit_at-lt a k) (bit_at-lt b k)

-- no number is in 0
pub is_in_zero : (k : ℕ) → is_in k 0 ≡ false
is_in_zero k = ap (λ b. b == 1) (bit_at-zero k)

-- the least number of a set that is not 0
pub trailing_least : (n : ℕ) → 0 < n → n < 2 ^ 32 → IsLeast n (trailing_zeros w32 n)
trailing_least n some fits = let h = bit_at-trailing_zeros w32 n some fits in record { has = h.1; below = h.2 }

pub least_in : (n t : ℕ) → IsLeast n t → is_in t n ≡ true
least_in n t h = eq-eqb _ _ h.has

pub least_first : (n t k : ℕ) → IsLeast n t → is_in k n ≡ true → t ≤ k
least_first n t k h e =
    elim (cases_lt k t) [
      | inl lt ↦
          let clear : bit_at n k ≡ 0 = h.below k lt in
          let one : bit_at n k ≡ 1 = eqb-true _ _ e in
          absurd (omega (arith, clear, one))
      | inr ge ↦ ge
    ]
