-- No window of a mask is above its highest bit.
use Rattle.std.proofs.Common.{ℕ, suc, ◌+◌, ◌-◌, ◌^◌, ◌<◌, ◌≤◌, ◌≡◌, ◌&&◌, ◌==◌, not, Bool, false, List, refl, ap, sym, ◌∙◌, inl, inr, arith}
use Rattle.std.specs.Int.{bit_at, leading_zeros, w64}
use Rattle.std.proofs.lemmas.Bool.{cases_Bool, cases_lt, eqb-true, both_ways}
use Rattle.std.proofs.lemmas.Nat.{leading_top}
use Rattle.std.proofs.lemmas.Nat.Bits.{bit_at-zero, bit_at_above}
use Rattle.window_snapshot.specs.Mask.{is_channel, mask_has}
use Rattle.touch_state.specs.declared.row.Row.{Row}
use Rattle.touch_state.specs.Rows.{row_of, IsTaken, AreHolders}
use Rattle.touch_state.proofs.Sets.{and_false, none_in}

pub top_above : (mask w : ℕ) → mask < 2 ^ 64 → 64 - leading_zeros w64 mask < w → mask_has mask w ≡ false
top_above mask w fits lt =
    elim (cases_lt 0 mask) [
      | inl some ↦
          let t = leading_top 64 mask some fits in
          let zeros : leading_zeros w64 mask + suc t.0 ≡ 64 = t.1 in
          let high : suc t.0 ≤ w - 1 = omega (arith, zeros, lt) in
          no_bit (bit_at_above mask (suc t.0) (w - 1) t.3 high)
      | inr none ↦
          let empty : mask ≡ 0 = omega (arith, none) in
          no_bit (ap (λ n. bit_at n (w - 1)) empty ∙ bit_at-zero (w - 1))
    ]
  where
    no_bit : bit_at mask (w - 1) ≡ 0 → mask_has mask w ≡ false
    no_bit e = ap (λ b. is_channel w && (b == 1)) e ∙ and_false (is_channel w)

-- a window that is not a holder holds nothing
pub held_none : (rows : List Row) (holders pilferers w : ℕ) → AreHolders rows holders pilferers → mask_has holders w ≡ false → (row_of rows w).ids ≡ 0
held_none rows holders pilferers w k none =
    elim (cases_Bool ((row_of rows w).ids == 0)) [
      | inl t ↦ eqb-true (row_of rows w).ids 0 t
      | inr f ↦ absurd (both_ways (not ((row_of rows w).ids == 0)) (sym (k.hold w) ∙ none) (ap not f))
    ]

-- nor does it after something is taken from it
pub taken_none : (takes : ℕ → Bool) (old new : Row) → IsTaken takes old new → old.ids ≡ 0 → new.ids ≡ 0
taken_none takes old new t e = none_in new.ids (λ i. t.ids i ∙ (rw (e, bit_at-zero i) refl))
