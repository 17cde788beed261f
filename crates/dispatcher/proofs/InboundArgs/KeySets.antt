-- What a write into the sets of scan codes does to the keys that are down.
use Rattle.std.proofs.Common.{◌≡◌, ◌≢◌, ◌<◌, ◌≤◌, ◌+◌, ◌*◌, ◌/◌, ◌%◌, ℕ, zero, suc, nat_eq, Bool, false, cond, List, length, get_or, set, replicate, refl, sym, ap, ◌∙◌, eq-eqb, ⊎_elim, arith}
use Rattle.std.proofs.lemmas.Bool.{cases_eq, ne_eqb}
use Rattle.std.proofs.lemmas.List.{get_or-set_same, get_or-set_other}
use Rattle.std.proofs.lemmas.Nat.Bits.{bit_at-zero}
use Rattle.std.proofs.Math.Nat.{div-add-mod, div-mul-le_self, div-eq_of_lt-le}
use Rattle.bits32.specs.Set.{is_in}
use Rattle.input_types.specs.DeviceRule.{with_key}
use Rattle.dispatcher.specs.InboundArgs.Keys.{has_key}

-- two codes of one set are one, where they have the same place in it
same_code : (s scan : ℕ) → s / 32 ≡ scan / 32 → s % 32 ≡ scan % 32 → s ≡ scan
same_code s scan sets codes =
    sym (div-add-mod s 32) ∙ ap (λ p. 32 * p + s % 32) sets ∙ ap (λ c. 32 * (scan / 32) + c) codes ∙ div-add-mod scan 32

-- the set of a scan code became one in which that code is, or is not, and else the same codes
abbrev pub Becomes : List ℕ → (scan w : ℕ) → Bool → Type 0
Becomes sets scan w down = (k : ℕ) → is_in k w ≡ cond (nat_eq k (scan % 32)) down (is_in k (get_or sets (scan / 32) 0))

module _ (sets : List ℕ) (scan w : ℕ) (down : Bool) (within : scan / 32 < length sets) (is : Becomes sets scan w down) where
  other_set : (s : ℕ) → s / 32 ≢ scan / 32 → has_key (set sets (scan / 32) w) s ≡ with_key (has_key sets) scan down s
  other_set s d =
      rw (get_or-set_other sets (scan / 32) (s / 32) w 0 d, ne_eqb s scan (λ e. d (ap (λ k. k / 32) e))) refl

  same_set : (s : ℕ) → s / 32 ≡ scan / 32 → has_key (set sets (scan / 32) w) s ≡ with_key (has_key sets) scan down s
  same_set s e =
      ⊎_elim
      (λ (codes : s % 32 ≡ scan % 32).
      rw (e, get_or-set_same sets (scan / 32) w 0 within, eq-eqb s scan (same_code s scan e codes))
      (is (s % 32) ∙ ap (λ b. cond b down (is_in (s % 32) (get_or sets (scan / 32) 0))) (eq-eqb (s % 32) (scan % 32) codes)))
      (λ (d : s % 32 ≢ scan % 32).
      rw (e, get_or-set_same sets (scan / 32) w 0 within, ne_eqb s scan (λ same. d (ap (λ k. k % 32) same)))
      (is (s % 32) ∙ ap (λ b. cond b down (is_in (s % 32) (get_or sets (scan / 32) 0))) (ne_eqb (s % 32) (scan % 32) d)))
      (cases_eq (s % 32) (scan % 32))

  -- one key more, or less
  pub key_set : (s : ℕ) → has_key (set sets (scan / 32) w) s ≡ with_key (has_key sets) scan down s
  key_set s = ⊎_elim (same_set s) (other_set s) (cases_eq (s / 32) (scan / 32))

-- no code is in an empty set
none_there : (n place : ℕ) → ◌≡◌ {A = ℕ} (get_or (replicate n 0) place 0) 0
none_there zero place = refl
none_there (suc n) zero = refl
none_there (suc n) (suc place) = none_there n place

-- no key is down where all sets are empty
pub none_down : (n scan : ℕ) → has_key (replicate n 0) scan ≡ false
none_down n scan = rw (none_there n (scan / 32), bit_at-zero (scan % 32)) refl

-- none of the codes of an empty set is down, up to the next set
pub none_of_set : (sets : List ℕ) (code s : ℕ) → get_or sets (code / 32) 0 ≡ 0 → code ≤ s → s < (code / 32 + 1) * 32 → has_key sets s ≡ false
none_of_set sets code s empty from to =
    let start = div-mul-le_self code 32 in
    let low : code / 32 * 32 ≤ s = omega (arith, start, from) in
    let same : s / 32 ≡ code / 32 = div-eq_of_lt-le 32 low to in
    rw (same, empty, bit_at-zero (s % 32)) refl
