-- The channels with a message for their client, as a mask.
use Rattle.std.proofs.Common.{◌≡◌, ℕ, zero, suc, ◌+◌, ◌<◌, ◌==◌, ◌&&◌, ◌||◌, Bool, true, false, cond, is_some, Option, Some, None, refl, sym, ap, ap₂, ◌∙◌, inl, inr, arith}
use Rattle.std.specs.Prelude.{nat_lt, nat_le}
use Rattle.std.specs.Option.{option_copied}
use denote.Ref.{Bor}
use Rattle.std.proofs.lemmas.Bool.{cases_eq, cases_lt, eq-eqb, ne_eqb, lt-ltb, le-leb, lt-leb, and_left, and_right, and_from}
use Rattle.window_snapshot.specs.Mask.{is_channel, mask_has, mask_with}
use Rattle.window_snapshot.proofs.Masks.{mask_has-with, mask_has-zero}

-- one that is lent is one
pub some_copied : {T : Type 0} (o : Option (Bor T)) → is_some o ≡ is_some (option_copied o)
some_copied None = refl
some_copied (Some a) = refl

-- a number from 1 to n
abbrev pub is_within : ℕ → ℕ → Bool
is_within n c = nat_lt 0 c && nat_le c n

above : (n c : ℕ) → n < c → is_within n c ≡ false
above n c lt = and_right (nat_lt 0 c) (nat_le c n) (lt-leb c n lt)

none_within : (c : ℕ) → is_within 0 c ≡ false
none_within zero = refl
none_within (suc n) = above 0 (suc n) (omega arith)

pub awaiting_first : (f : ℕ → Bool) (c : ℕ) → mask_has 0 c ≡ (is_within 0 c && f c)
awaiting_first f c = mask_has-zero c ∙ sym (and_left (is_within 0 c) (f c) (none_within c))

is_next : (n c : ℕ) → c ≡ n + 1 → is_within (n + 1) c ≡ true
is_next n c e = and_from (nat_lt 0 c) (nat_le c (n + 1)) (lt-ltb 0 c (omega (arith, e))) (le-leb c (n + 1) (omega (arith, e)))

is_other : (n c : ℕ) → (n + 1 ≡ c → ⊥) → is_within n c ≡ is_within (n + 1) c
is_other n c ne =
    elim (cases_lt n c) [
      | inl lt ↦
          let far : n + 1 < c = beyond n c lt ne in
          above n c lt ∙ sym (above (n + 1) c far)
      | inr le ↦ ap (λ b. nat_lt 0 c && b) (le-leb c n le ∙ sym (le-leb c (n + 1) (omega (arith, le))))
    ]
  where
    beyond : (n c : ℕ) → n < c → (n + 1 ≡ c → ⊥) → n + 1 < c
    beyond n c lt ne = elim (cases_lt (n + 1) c) [ inl more ↦ more | inr le ↦ absurd (ne (omega (arith, lt, le))) ]

or_nothing : (b : Bool) → (b || false) ≡ b
or_nothing true = refl
or_nothing false = refl

pub awaiting_more : (f : ℕ → Bool) (mask n : ℕ) → n < 64 → ((c : ℕ) → mask_has mask c ≡ (is_within n c && f c))
    → (c : ℕ) → mask_has (cond (f (n + 1)) (mask_with mask (n + 1)) mask) c ≡ (is_within (n + 1) c && f c)
awaiting_more f mask n lt before c = by_next (f (n + 1)) refl
  where
    by_next : (b : Bool) → f (n + 1) ≡ b → mask_has (cond b (mask_with mask (n + 1)) mask) c ≡ (is_within (n + 1) c && f c)
    by_next true e =
        mask_has-with mask (n + 1) c
        ∙ ap (λ b. b || (is_channel c && (n + 1 == c))) (before c)
        ∙ elim (cases_eq (n + 1) c) [
          | inl same ↦
              ap₂ (λ a b. a && f c || (is_channel c && b)) (above n c (omega (arith, same))) (eq-eqb (n + 1) c same)
              ∙ ap (λ b. b && true) (channel c same)
              ∙ sym (ap₂ (λ a b. a && b) (is_next n c (sym same)) (ap f (sym same) ∙ e))
          | inr other ↦
              ap (λ b. is_within n c && f c || (is_channel c && b)) (ne_eqb (n + 1) c other)
              ∙ ap (λ b. is_within n c && f c || b) (and_right (is_channel c) false refl)
              ∙ or_nothing (is_within n c && f c)
              ∙ ap (λ b. b && f c) (is_other n c other)
        ]
      where
        channel : (c : ℕ) → n + 1 ≡ c → is_channel c ≡ true
        channel c same = and_from (nat_lt 0 c) (nat_le c 64) (lt-ltb 0 c (omega (arith, same))) (le-leb c 64 (omega (arith, same, lt)))
    by_next false e =
        before c
        ∙ elim (cases_eq (n + 1) c) [
          | inl same ↦
              ap (λ b. b && f c) (above n c (omega (arith, same)))
              ∙ sym (and_right (is_within (n + 1) c) (f c) (ap f (sym same) ∙ e))
          | inr other ↦ ap (λ b. b && f c) (is_other n c other)
        ]
