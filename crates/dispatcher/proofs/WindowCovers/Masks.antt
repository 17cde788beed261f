-- The mask of a device among those of all.
use Rattle.std.proofs.Common.{ℕ, zero, suc, ◌-◌, ◌<◌, ◌≤◌, ◌≡◌, ◌≢◌, ◌==◌, nat_le, Bool, true, false, List, length, replicate, set, get_or, if◌then◌else◌, refl, sym, ap, ap₂, ◌∙◌, inl, inr, arith, get_or-set_same, get_or-set_other}
use Rattle.std.proofs.lemmas.Bool.{cases_Bool, cases_eq, eq-eqb, ne_eqb, eqb-true, leb-true, and_parts}
use Rattle.window_snapshot.specs.Mask.{mask_has}
use Rattle.window_snapshot.proofs.Masks.{mask_has-zero}
use Rattle.routing_rules.specs.Cover.{clear}
use Rattle.route_split.specs.Tables.{is_device}
use Rattle.dispatcher.specs.WindowCovers.Covers.{mask_of, cover_in, bit_after}

set_same : (ms : List ℕ) (device k x : ℕ) → length ms ≡ 8 → is_device device ≡ true → k ≡ device - 1 → mask_of (set ms k x) device ≡ x
set_same ms device k x whole valid e =
    let p = and_parts (nat_le 1 device) (nat_le device 8) valid in
    let low : 1 ≤ device = leb-true 1 device p.0 in
    let high : device ≤ 8 = leb-true device 8 p.1 in
    let lt : k < length ms = omega (arith, whole, e, low, high) in
    ap (λ b. if b then get_or (set ms k x) (device - 1) 0 else 0) valid
    ∙ ap (λ j. get_or (set ms k x) j 0) (sym e) ∙ get_or-set_same ms k x 0 lt

set_other : (ms : List ℕ) (device d k x : ℕ) → is_device device ≡ true → k ≡ device - 1 → d ≢ device → mask_of (set ms k x) d ≡ mask_of ms d
set_other ms device d k x valid e n =
    elim (cases_Bool (is_device d)) [
      | inl t ↦
          let low : 1 ≤ d = leb-true 1 d (and_parts (nat_le 1 d) (nat_le d 8) t).0 in
          let down : 1 ≤ device = leb-true 1 device (and_parts (nat_le 1 device) (nat_le device 8) valid).0 in
          let apart : d - 1 ≢ k = λ h. n (omega (arith, h, e, low, down)) in
          rw t (get_or-set_other ms k (d - 1) x 0 apart)
      | inr f ↦ rw f refl
    ]

-- the masks once one is set
pub mask-set : (ms : List ℕ) (device k x d : ℕ) → length ms ≡ 8 → is_device device ≡ true → k ≡ device - 1
    → mask_of (set ms k x) d ≡ (if d == device then x else mask_of ms d)
mask-set ms device k x d whole valid e =
    elim (cases_eq d device) [
      | inl same ↦
          ap (mask_of (set ms k x)) same ∙ set_same ms device k x whole valid e
          ∙ sym (ap (λ b. if b then x else mask_of ms d) (eq-eqb d device same))
      | inr n ↦ set_other ms device d k x valid e n ∙ sym (ap (λ b. if b then x else mask_of ms d) (ne_eqb d device n))
    ]

-- a bit of the masks once that of a device is the one after a gift
pub given_mask : (x was : ℕ) (ms : List ℕ) (g h f : Bool) (d device w : ℕ) → mask_has x w ≡ bit_after g h f (mask_has was w) → was ≡ mask_of ms device
    → mask_has (if d == device then x else mask_of ms d) w
    ≡ (if d == device then bit_after g h f (mask_has (mask_of ms d) w) else mask_has (mask_of ms d) w)
given_mask x was ms g h f d device w is at = by_device (d == device) refl
  where
    by_device : (b : Bool) → (d == device) ≡ b
        → mask_has (if b then x else mask_of ms d) w ≡ (if b then bit_after g h f (mask_has (mask_of ms d) w) else mask_has (mask_of ms d) w)
    by_device true e = is ∙ ap (λ m. bit_after g h f (mask_has m w)) (at ∙ ap (mask_of ms) (sym (eqb-true d device e)))
    by_device false e = refl

none_at : (n i : ℕ) → ◌≡◌ {A = ℕ} (get_or (replicate n 0) i 0) 0
none_at zero i = refl
none_at (suc n) zero = refl
none_at (suc n) (suc i) = none_at n i

no_mask : (d : ℕ) → mask_of (replicate 8 0) d ≡ 0
no_mask d = by_device (is_device d)
  where
    by_device : (b : Bool) → ◌≡◌ {A = ℕ} (if b then get_or (replicate 8 0) (d - 1) 0 else 0) 0
    by_device true = none_at 8 (d - 1)
    by_device false = refl

-- nothing lies over a window by masks of nothing
pub fresh : (w d : ℕ) → cover_in (record { obscured = replicate 8 0; partly = replicate 8 0 }) w d ≡ clear
fresh w d =
    let none : mask_has (mask_of (replicate 8 0) d) w ≡ false = ap (λ m. mask_has m w) (no_mask d) ∙ mask_has-zero w in
    ap₂ (λ a b. record { obscured = a; partly = b }) none none
