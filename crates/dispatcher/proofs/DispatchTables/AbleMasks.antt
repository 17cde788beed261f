-- Masks of channels with one more, one less, and some less.
use Rattle.std.proofs.Common.{◌≡◌, ℕ, ◌^◌, ◌<◌, ◌==◌, Bool, true, false, not, ◌&&◌, ◌||◌, cond, refl, sym, ap, ◌∙◌, inl, inr, arith}
use Rattle.std.proofs.lemmas.Bool.{cases_eq, eq-eqb, ne_eqb}
use Rattle.window_snapshot.specs.Mask.{is_channel, mask_has, mask_with}
use Rattle.window_snapshot.proofs.Masks.{mask_has-with, mask_has-zero}
use Rattle.focus_resolver.proofs.Masks.{mask_has-without}
use Rattle.dispatcher.specs.DispatchTables.Masks.{mask_less}
use Rattle.dispatcher.proofs.DispatchTables.Masking.{mask_with-low}

pub with_one : (mask k c : ℕ) → is_channel k ≡ true → mask_has (mask_with mask k) c ≡ (c == k || mask_has mask c)
with_one mask k c e =
    mask_has-with mask k c
    ∙ elim (cases_eq c k) [
      | inl same ↦
          here (mask_has mask c) (is_channel c) (k == c) (c == k) (ap is_channel same ∙ e) (eq-eqb k c (sym same)) (eq-eqb c k same)
      | inr ne ↦ there (mask_has mask c) (is_channel c) (k == c) (c == k) (ne_eqb k c (λ h. ne (sym h))) (ne_eqb c k ne)
    ]
  where
    here : (m x y z : Bool) → x ≡ true → y ≡ true → z ≡ true → (m || (x && y)) ≡ (z || m)
    here true x y z e f g = rw g refl
    here false x y z e f g = rw (e, f, g) refl

    there : (m x y z : Bool) → y ≡ false → z ≡ false → (m || (x && y)) ≡ (z || m)
    there true x y z f g = rw g refl
    there false true y z f g = rw (f, g) refl
    there false false y z f g = rw g refl

pub less_one : (mask k c : ℕ) → is_channel k ≡ true
    → mask_has (mask_less mask (mask_with 0 k)) c ≡ (not (c == k) && mask_has mask c)
less_one mask k c e =
    mask_has-without mask (mask_with 0 k) c (mask_with-low 0 k (omega arith))
    ∙ ap (λ b. mask_has mask c && not b) (with_one 0 k c e ∙ ap (λ b. (c == k) || b) (mask_has-zero c))
    ∙ turned (mask_has mask c) (c == k)
  where
    turned : (m x : Bool) → (m && not (x || false)) ≡ (not x && m)
    turned true true = refl
    turned true false = refl
    turned false true = refl
    turned false false = refl

pub less_named : (mask other c : ℕ) → other < 2 ^ 64
    → mask_has (mask_less mask other) c ≡ (not (mask_has other c) && mask_has mask c)
less_named mask other c low = mask_has-without mask other c low ∙ turned (mask_has mask c) (mask_has other c)
  where
    turned : (m x : Bool) → (m && not x) ≡ (not x && m)
    turned true true = refl
    turned true false = refl
    turned false true = refl
    turned false false = refl

pub finished_mask : (late : ℕ → Bool) (mask k c : ℕ) → is_channel k ≡ true
    → mask_has (cond (late k) mask (mask_with mask k)) c
    ≡ cond (c == k) (mask_has mask c || not (late c)) (mask_has mask c)
finished_mask late mask k c e =
    elim (cases_eq c k) [
      | inl same ↦
          by_late (late k)
          ∙ here (late k) (late c) (c == k) (mask_has mask c) (mask_has (mask_with mask k) c) (ap late same) (eq-eqb c k same) (with_one mask k c e)
      | inr ne ↦
          by_late (late k)
          ∙ there (late k) (late c) (c == k) (mask_has mask c) (mask_has (mask_with mask k) c) (ne_eqb c k ne) (with_one mask k c e)
    ]
  where
    by_late : (l : Bool)
        → mask_has (cond l mask (mask_with mask k)) c ≡ cond l (mask_has mask c) (mask_has (mask_with mask k) c)
    by_late true = refl
    by_late false = refl

    here : (l m z b w : Bool) → m ≡ l → z ≡ true → w ≡ (z || b) → cond l b w ≡ cond z (b || not m) b
    here true m z b w f g h = rw (f, g) (or_false b)
      where
        or_false : (x : Bool) → x ≡ (x || false)
        or_false true = refl
        or_false false = refl
    here false m z b w f g h = rw (h, f, g) (or_true b)
      where
        or_true : (x : Bool) → true ≡ (x || true)
        or_true true = refl
        or_true false = refl

    there : (l m z b w : Bool) → z ≡ false → w ≡ (z || b) → cond l b w ≡ cond z (b || not m) b
    there true m z b w g h = rw g refl
    there false m z b w g h = h ∙ rw g refl
