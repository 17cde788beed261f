-- The channels of two masks.
use Rattle.std.proofs.Common.{◌≡◌, ℕ, zero, suc, ◌-◌, ◌<◌, ◌==◌, ◌&&◌, ◌||◌, Bool, true, false, refl, sym, ap, ◌∙◌, inl, inr, arith}
use Rattle.std.specs.Prelude.{bit_or}
use Rattle.std.specs.Int.{bit_at}
use Rattle.std.proofs.lemmas.Bool.{cases_eq, eq-eqb, ne_eqb, or_left}
use Rattle.std.proofs.lemmas.Nat.Bits.{bit_at_or, bit_at-lt}
use Rattle.window_snapshot.specs.Mask.{is_channel, mask_has}

zero_of : (n : ℕ) → n < 2 → (n ≡ 1 → ⊥) → n ≡ 0
zero_of zero lt ne = refl
zero_of (suc zero) lt ne = absurd (ne refl)
zero_of (suc (suc n)) lt ne = absurd (omega (arith, lt))

or_bit : (a b i : ℕ) → (bit_at (bit_or a b) i == 1) ≡ ((bit_at a i == 1) || (bit_at b i == 1))
or_bit a b i =
    let both = bit_at_or a b i in
    let of_a = bit_at-lt a i in
    let of_b = bit_at-lt b i in
    elim (cases_eq (bit_at a i) 1) [
      | inl e ↦
          let set : bit_at (bit_or a b) i ≡ 1 = omega arith in
          eq-eqb _ _ set ∙ sym (or_left (bit_at a i == 1) (bit_at b i == 1) (eq-eqb _ _ e))
      | inr ne ↦
          let left : bit_at (bit_or a b) i ≡ bit_at b i = omega (arith, both, of_a, of_b, zero_of (bit_at a i) of_a ne) in
          ap (λ n. n == 1) left ∙ sym (ap (λ t. t || (bit_at b i == 1)) (ne_eqb _ _ ne))
    ]

and_or : (k t u : Bool) → (k && (t || u)) ≡ ((k && t) || (k && u))
and_or true t u = refl
and_or false t u = refl

pub mask_union : (a b c : ℕ) → mask_has (bit_or a b) c ≡ (mask_has a c || mask_has b c)
mask_union a b c = ap (λ t. is_channel c && t) (or_bit a b (c - 1)) ∙ and_or (is_channel c) (bit_at a (c - 1) == 1) (bit_at b (c - 1) == 1)
