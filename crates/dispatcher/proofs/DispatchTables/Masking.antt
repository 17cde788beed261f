-- Masks of lists of channels, and the numbers of the channels.
use Rattle.std.proofs.Common.{◌≡◌, ℕ, zero, suc, ◌-◌, ◌^◌, ◌≤◌, ◌<◌, ◌==◌, nat_lt, nat_le, Bool, true, false, ◌&&◌, ◌||◌, cond, List, [], ◌∷◌, filter, refl, ap, ◌∙◌, inl, inr, arith}
use Rattle.std.specs.Prelude.{fold, bit_or}
use Rattle.std.specs.List.{list_any}
use Rattle.std.proofs.Math.Pow.{pow-lt}
use Rattle.std.proofs.lemmas.Nat.{or_lt}
use Rattle.std.proofs.lemmas.List.Elements.{filter-append}
use Rattle.std.proofs.lemmas.List.Folds.{list_any-append}
use Rattle.std.proofs.lemmas.Bool.{cases_eq, eq-eqb, ne_eqb, and_parts, ltb-true, leb-true, le-leb}
use Rattle.std.proofs.lemmas.Bool.Decides.{nat_tests}
use Rattle.window_snapshot.specs.Mask.{is_channel, mask_has, mask_with}
use Rattle.window_snapshot.proofs.Masks.{mask_has-with, mask_has-zero}
use Rattle.dispatch_history.specs.Due.{mask_of}
use Rattle.dispatch_history.specs.Effects.{channels}

mask_has-fold : (ds : List ℕ) (mask c : ℕ)
    → mask_has (fold mask_with mask ds) c ≡ (mask_has mask c || (is_channel c && list_any (λ d. d == c) ds))
mask_has-fold [] mask c = none (mask_has mask c) (is_channel c)
  where
    none : (a k : Bool) → a ≡ (a || (k && false))
    none true k = refl
    none false true = refl
    none false false = refl
mask_has-fold (d ∷ ds) mask c =
    mask_has-fold ds (mask_with mask d) c
    ∙ ap (λ t. t || (is_channel c && list_any (λ e. e == c) ds)) (mask_has-with mask d c)
    ∙ regroup (mask_has mask c) (is_channel c) (d == c) (list_any (λ e. e == c) ds)
  where
    regroup : (a k t u : Bool) → ((a || (k && t)) || (k && u)) ≡ (a || (k && (t || u)))
    regroup true k t u = refl
    regroup false true t u = refl
    regroup false false t u = refl

-- the mask of channels has just those
pub mask_has-mask_of : (ds : List ℕ) (c : ℕ) → mask_has (mask_of ds) c ≡ (is_channel c && list_any (λ d. d == c) ds)
mask_has-mask_of ds c = mask_has-fold ds 0 c ∙ ap (λ t. t || (is_channel c && list_any (λ d. d == c) ds)) (mask_has-zero c)

-- it has 64 bits
pub mask_with-low : (mask d : ℕ) → mask < 2 ^ 64 → mask_with mask d < 2 ^ 64
mask_with-low mask d low = at (is_channel d) refl
  where
    at : (b : Bool) → is_channel d ≡ b → cond b (bit_or mask (2 ^ (d - 1))) mask < 2 ^ 64
    at true e =
        let p = and_parts (nat_lt 0 d) (nat_le d 64) e in
        let from : 0 < d = ltb-true 0 d p.0 in
        let to : d ≤ 64 = leb-true d 64 p.1 in
        let bit : d - 1 < 64 = omega (arith, from, to) in
        or_lt 64 mask (2 ^ (d - 1)) low (pow-lt {i = d - 1} {j = 64} bit)
    at false e = low

fold-low : (ds : List ℕ) (mask : ℕ) → mask < 2 ^ 64 → fold mask_with mask ds < 2 ^ 64
fold-low [] mask low = low
fold-low (d ∷ ds) mask low = fold-low ds (mask_with mask d) (mask_with-low mask d low)

pub mask_of-low : (ds : List ℕ) → mask_of ds < 2 ^ 64
mask_of-low ds = fold-low ds 0 (omega arith)

-- which of the channels 1 to n pass a test
pub among : (p : ℕ → Bool) (n c : ℕ)
    → list_any (λ d. d == c) (filter p (channels n)) ≡ (nat_le 1 c && nat_le c n && p c)
among p zero c = none (nat_le 1 c) (nat_le c 0) (p c) refl refl
  where
    none : (a b x : Bool) → nat_le 1 c ≡ a → nat_le c 0 ≡ b → false ≡ (a && b && x)
    none true true x e f = absurd (omega (arith, leb-true 1 c e, leb-true c 0 f))
    none true false x e f = refl
    none false b x e f = refl
among p (suc n) c =
    ap (list_any (λ d. d == c)) (filter-append p (channels n) (suc n ∷ []))
    ∙ list_any-append (λ d. d == c) (filter p (channels n)) (filter p (suc n ∷ []))
    ∙ ap (λ b. b || list_any (λ d. d == c) (cond (p (suc n)) (suc n ∷ []) [])) (among p n c)
    ∙ elim (cases_eq (suc n) c) [
      | inl e ↦
          let low : nat_le c n ≡ false = above n c e in
          let from : nat_le 1 c ≡ true = le-leb 1 c (omega (arith, e)) in
          let to : nat_le c (suc n) ≡ true = le-leb c (suc n) (omega (arith, e)) in
          rw (low, from, to) (here (p (suc n)) (p c) (ap p e) (eq-eqb (suc n) c e))
      | inr ne ↦
          rw (further n c ne) (there (p (suc n)) (nat_le 1 c && nat_le c (suc n) && p c) (ne_eqb (suc n) c ne))
    ]
  where
    above : (n c : ℕ) → suc n ≡ c → nat_le c n ≡ false
    above n c e = grind (arith, nat_tests)

    further : (n c : ℕ) → (suc n ≡ c → ⊥) → nat_le c n ≡ nat_le c (suc n)
    further n c ne = grind (arith, nat_tests)

    here : (x y : Bool) → x ≡ y → (suc n == c) ≡ true → (false || list_any (λ d. d == c) (cond x (suc n ∷ []) [])) ≡ y
    here true y e f = ap (λ b. b || false) f ∙ e
    here false y e f = e

    there : (x y : Bool) → (suc n == c) ≡ false → (y || list_any (λ d. d == c) (cond x (suc n ∷ []) [])) ≡ y
    there true y f = ap (λ b. y || (b || false)) f ∙ or_false y
      where
        or_false : (b : Bool) → (b || false) ≡ b
        or_false true = refl
        or_false false = refl
    there false true f = refl
    there false false f = refl
