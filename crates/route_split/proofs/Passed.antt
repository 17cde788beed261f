-- A mask of the windows that hold a pointer, window by window.
use Rattle.std.proofs.Common.{◌≡◌, ◌≢◌, ◌+◌, ◌<◌, ◌≤◌, ◌==◌, ◌&&◌, ◌||◌, nat_le, ℕ, Bool, true, false, refl, sym, ap, ap₂, ◌∙◌, inl, inr, arith, ◌⊎◌}
use Rattle.std.proofs.lemmas.Bool.{both_ways, cases_Bool, cases_eq, cases_lt, eq-eqb, le-leb, lt-leb, ne_eqb, and_parts, leb-true}
use Rattle.window_snapshot.specs.Mask.{is_channel, mask_has}
use Rattle.window_snapshot.proofs.Masks.{mask_has-zero}
use Rattle.touch_state.specs.Touches.{Touches, holds}
use Rattle.route_split.proofs.Changing.{held_channel}

-- no window has a number below 1
zero_holds : (t : Touches) (i : ℕ) → holds t 0 i ≡ false
zero_holds t i = elim (cases_Bool (holds t 0 i)) [ inl h ↦ absurd (both_ways (is_channel 0) refl (held_channel t 0 i h)) | inr f ↦ f ]

-- before the first one
pub passed_none : (t : Touches) (i w : ℕ) → mask_has 0 w ≡ (nat_le w 0 && holds t w i)
passed_none t i w =
    mask_has-zero w
    ∙ elim (cases_eq w 0) [
      | inl e ↦ rw e (sym (zero_holds t i))
      | inr n ↦ rw (lt-leb w 0 (omega arith)) refl
    ]

-- one window more
pub passed_more : (t : Touches) (i k old new : ℕ) (hit : Bool) → ((w : ℕ) → mask_has old w ≡ (nat_le w k && holds t w i))
    → ((w : ℕ) → mask_has new w ≡ (mask_has old w || (w == k + 1 && hit))) → hit ≡ holds t (k + 1) i
    → (w : ℕ) → mask_has new w ≡ (nat_le w (k + 1) && holds t w i)
passed_more t i k old new hit was is found w =
    is w
    ∙ elim (cases_eq w (k + 1)) [
      | inl e ↦
          ap₂ (λ a b. a || (b && hit)) (was w ∙ ap (λ b. b && holds t w i) (lt-leb w k (omega (arith, e)))) (eq-eqb w (k + 1) e)
          ∙ found
          ∙ ap (λ v. holds t v i) (sym e)
          ∙ sym (ap (λ b. b && holds t w i) (le-leb w (k + 1) (omega (arith, e))))
      | inr n ↦
          ap₂ (λ a b. a || (b && hit)) (was w) (ne_eqb w (k + 1) n)
          ∙ or_false (nat_le w k && holds t w i)
          ∙ ap (λ b. b && holds t w i) (same_side n (cases_lt k w))
    ]
  where
    or_false : (b : Bool) → (b || false) ≡ b
    or_false true = refl
    or_false false = refl

    same_side : w ≢ k + 1 → (k < w) ⊎ (w ≤ k) → nat_le w k ≡ nat_le w (k + 1)
    same_side n (inl above) =
        let over : k + 1 < w = elim (cases_lt (k + 1) w) [ inl lt ↦ lt | inr le ↦ absurd (n (omega (arith, above, le))) ] in
        lt-leb w k above ∙ sym (lt-leb w (k + 1) over)
    same_side n (inr below) = le-leb w k below ∙ sym (le-leb w (k + 1) (omega (arith, below)))

-- no window has a number above 64
pub passed_all : (t : Touches) (i mask k : ℕ) → 64 ≤ k → ((w : ℕ) → mask_has mask w ≡ (nat_le w k && holds t w i))
    → (w : ℕ) → mask_has mask w ≡ holds t w i
passed_all t i mask k all was w =
    was w ∙ elim (cases_Bool (holds t w i)) [
      | inl h ↦
          let few : w ≤ 64 = leb-true w 64 (and_parts _ (nat_le w 64) (held_channel t w i h)).1 in
          ap (λ b. b && holds t w i) (le-leb w k (omega (arith, few, all)))
      | inr f ↦ rw f (none (nat_le w k))
    ]
  where
    none : (b : Bool) → (b && false) ≡ false
    none true = refl
    none false = refl
