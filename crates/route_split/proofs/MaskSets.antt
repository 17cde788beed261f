-- Masks of other windows, and of one.
use Rattle.std.proofs.Common.{ℕ, zero, suc, ◌-◌, ◌^◌, ◌<◌, ◌≤◌, ◌≡◌, ◌&&◌, ◌||◌, ◌==◌, not, Bool, true, false, nat_lt, nat_le, refl, sym, ap, ◌∙◌, inl, inr, arith}
use Rattle.std.specs.Prelude.{bit_or, max}
use Rattle.std.specs.Int.{bit_at, bit_not, w64}
use Rattle.std.proofs.lemmas.Bool.{and_parts, ltb-true, leb-true, cases_eq, eq-eqb, ne_eqb}
use Rattle.std.proofs.lemmas.Nat.Bits.{bit_at_not, bit_at_or, bit_at-lt}
use Rattle.window_snapshot.specs.Mask.{is_channel, mask_has, mask_with}
use Rattle.window_snapshot.proofs.Masks.{mask_has-with, mask_has-zero}

flipped : (b : ℕ) → b < 2 → (1 - b == 1) ≡ not (b == 1)
flipped zero lt = refl
flipped (suc zero) lt = refl
flipped (suc (suc b)) lt = absurd (omega (arith, lt))

-- the mask of all other windows
pub mask_has-not : (mask w : ℕ) → mask < 2 ^ 64 → mask_has (bit_not w64 mask) w ≡ (is_channel w && not (mask_has mask w))
mask_has-not mask w small = by_channel (is_channel w) refl
  where
    by_channel : (b : Bool) → is_channel w ≡ b → (b && (bit_at (bit_not w64 mask) (w - 1) == 1)) ≡ (b && not (b && (bit_at mask (w - 1) == 1)))
    by_channel false e = refl
    by_channel true e =
        let p = and_parts (nat_lt 0 w) (nat_le w 64) e in
        let low : 0 < w = ltb-true 0 w p.0 in
        let high : w ≤ 64 = leb-true w 64 p.1 in
        ap (λ n. n == 1) (bit_at_not w64 mask (w - 1) small (omega (arith, low, high))) ∙ flipped (bit_at mask (w - 1)) (bit_at-lt mask (w - 1))

-- the mask of one window
pub mask_has-alone : (mask c w : ℕ) → mask ≡ mask_with 0 c → mask_has mask w ≡ (is_channel w && w == c)
mask_has-alone mask c w e =
    ap (λ m. mask_has m w) e ∙ mask_has-with 0 c w ∙ ap (λ b. b || is_channel w && c == w) (mask_has-zero w)
    ∙ ap (λ b. is_channel w && b) (elim (cases_eq c w) [ inl q ↦ eq-eqb c w q ∙ sym (eq-eqb w c (sym q)) | inr n ↦ ne_eqb c w n ∙ sym (ne_eqb w c (λ q. n (sym q))) ])

either_bit : (a b : ℕ) → a < 2 → b < 2 → (max a b == 1) ≡ ((a == 1) || (b == 1))
either_bit zero zero x y = refl
either_bit zero (suc zero) x y = refl
either_bit (suc zero) zero x y = refl
either_bit (suc zero) (suc zero) x y = refl
either_bit zero (suc (suc b)) x y = absurd (omega (arith, y))
either_bit (suc zero) (suc (suc b)) x y = absurd (omega (arith, y))
either_bit (suc (suc a)) b x y = absurd (omega (arith, x))

-- what is in one of two masks
pub mask_has-or : (a b w : ℕ) → mask_has (bit_or a b) w ≡ (mask_has a w || mask_has b w)
mask_has-or a b w =
    ap (λ n. is_channel w && (n == 1)) (bit_at_or a b (w - 1))
    ∙ ap (λ t. is_channel w && t) (either_bit (bit_at a (w - 1)) (bit_at b (w - 1)) (bit_at-lt a (w - 1)) (bit_at-lt b (w - 1)))
    ∙ share (is_channel w) (bit_at a (w - 1) == 1) (bit_at b (w - 1) == 1)
  where
    share : (c x y : Bool) → (c && (x || y)) ≡ ((c && x) || (c && y))
    share true x y = refl
    share false x y = refl
