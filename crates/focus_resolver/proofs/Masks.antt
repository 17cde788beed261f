-- Masks of one channel, unions of masks and differences of them.
use Rattle.std.proofs.Common.{◌≡◌, ℕ, ◌-◌, ◌^◌, ◌<◌, Bool, true, false, not, ◌&&◌, ◌||◌, Option, Some, None, cond, subst, refl, ap, ap₂, sym, ◌∙◌, arith, inl, inr}
use Rattle.std.specs.Prelude.{◌==◌, bit_or, bit_and}
use Rattle.std.specs.Int.{bit_at, bit_not, w64}
use Rattle.std.proofs.lemmas.Bool.{cases_eq, eq-eqb, ne_eqb, and_right}
use Rattle.std.proofs.lemmas.Nat.Bits.{bit_at_or, bit_at-lt}
use Rattle.window_snapshot.specs.Mask.{is_channel, mask_has, mask_with}
use Rattle.window_snapshot.proofs.Masks.{mask_has-with, mask_has-zero, mask_has_channel}
use Rattle.window_snapshot.proofs.Parts.{mask_has-less}
use Rattle.focus_resolver.specs.Resolver.{focus_if}

-- a mask with one channel has just that
pub one_channel : (mask k c : ℕ) → mask_has mask k ≡ true → mask_has (mask_with 0 k) c ≡ (c == k)
one_channel mask k c e =
    let of_k : is_channel k ≡ true = mask_has_channel mask k e in
    mask_has-with 0 k c
    ∙ ap (λ b. b || (is_channel c && (k == c))) (mask_has-zero c)
    ∙ elim (cases_eq c k) [
      | inl same ↦ ap₂ (λ a b. a && b) (ap is_channel same ∙ of_k) (eq-eqb k c (sym same)) ∙ sym (eq-eqb c k same)
      | inr ne ↦ and_right (is_channel c) (k == c) (ne_eqb k c (λ h. ne (sym h))) ∙ sym (ne_eqb c k ne)
    ]

bit_or_is : (a b i : ℕ) → (bit_at (bit_or a b) i == 1) ≡ ((bit_at a i == 1) || (bit_at b i == 1))
bit_or_is a b i =
    let both = bit_at_or a b i in
    let in_a = bit_at-lt a i in
    let in_b = bit_at-lt b i in
    elim (cases_eq (bit_at a i) 1) [
      | inl p ↦ eq-eqb _ _ (omega (arith, both, in_a, in_b, p)) ∙ sym (ap (λ t. t || (bit_at b i == 1)) (eq-eqb _ _ p))
      | inr p ↦
          let same : bit_at (bit_or a b) i ≡ bit_at b i = omega (arith, both, in_a, in_b, p) in
          ap (λ n. n == 1) same ∙ sym (ap (λ t. t || (bit_at b i == 1)) (ne_eqb _ _ p))
    ]

-- a union has the channels of both
pub mask_has-or : (a b c : ℕ) → mask_has (bit_or a b) c ≡ (mask_has a c || mask_has b c)
mask_has-or a b c = ap (λ t. is_channel c && t) (bit_or_is a b (c - 1)) ∙ spread (is_channel c) (bit_at a (c - 1) == 1) (bit_at b (c - 1) == 1)
  where
    spread : (k s t : Bool) → (k && (s || t)) ≡ ((k && s) || (k && t))
    spread true s t = refl
    spread false s t = refl

-- a difference has those of the one that are not in the other
pub mask_has-without : (a b c : ℕ) → b < 2 ^ 64 → mask_has (bit_and a (bit_not w64 b)) c ≡ (mask_has a c && not (mask_has b c))
mask_has-without a b c low = mask_has-less a b c low ∙ turned (mask_has b c) (mask_has a c)
  where
    turned : (s t : Bool) → (not s && t) ≡ (t && not s)
    turned true true = refl
    turned true false = refl
    turned false true = refl
    turned false false = refl

-- the union of four masks
pub mask_has-or_four : (k l m n c : ℕ) → mask_has (bit_or (bit_or (bit_or k l) m) n) c ≡ (mask_has k c || (mask_has l c || (mask_has m c || (mask_has n c || false))))
mask_has-or_four k l m n c =
    mask_has-or (bit_or (bit_or k l) m) n c
    ∙ ap (λ t. t || mask_has n c) (mask_has-or (bit_or k l) m c ∙ ap (λ t. t || mask_has m c) (mask_has-or k l c))
    ∙ turned (mask_has k c) (mask_has l c) (mask_has m c) (mask_has n c)
  where
    turned : (a b d e : Bool) → (((a || b) || d) || e) ≡ (a || (b || (d || (e || false))))
    turned true b d e = refl
    turned false true d e = refl
    turned false false true e = refl
    turned false false false true = refl
    turned false false false false = refl

-- a channel that has the focus is in the mask of those that may have it
pub focus_is_in : (mask : ℕ) (requested : Option ℕ) (c : ℕ) → focus_if (mask_has mask) requested ≡ Some c → mask_has mask c ≡ true
focus_is_in mask None c e = absurd (cc e)
focus_is_in mask (Some d) c e = by_test (mask_has mask d) refl e
  where
    by_test : (b : Bool) → mask_has mask d ≡ b → cond b (Some d) None ≡ Some c → mask_has mask c ≡ true
    by_test true q e = let same : d ≡ c = cc in subst (λ x. mask_has mask x ≡ true) same q
    by_test false q e = absurd (cc e)
