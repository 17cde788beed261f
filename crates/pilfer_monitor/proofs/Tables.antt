-- Tables of sets, and what is in both of two sets.
use Rattle.std.proofs.Common.{ℕ, ◌+◌, ◌-◌, ◌^◌, ◌<◌, ◌≤◌, ◌≡◌, ◌≢◌, ◌&&◌, ◌==◌, nat_lt, nat_le, true, List, length, set, get_or, if◌then◌else◌, refl, ap, ◌∙◌, inl, inr, arith, get_or-set_same, get_or-set_other}
use Rattle.std.proofs.lemmas.Bool.{cases_Bool, cases_eq, cases_lt, eq-eqb, ne_eqb, lt-ltb, le-ltb, le-leb, ltb-true, and_parts, and_from}
use Rattle.std.proofs.lemmas.Nat.Bits.{bit_at_above}
use Rattle.bits32.specs.Set.{is_in}
use Rattle.window_snapshot.specs.Mask.{is_channel}
use Rattle.pilfer_monitor.specs.Pilfer.{set_of}

pub common_all : (a b both k : ℕ) → a < 2 ^ 32 → 32 ≤ k → ((i : ℕ) → is_in i both ≡ (nat_lt i k && (is_in i a && is_in i b)))
    → (i : ℕ) → is_in i both ≡ (is_in i a && is_in i b)
common_all a b both k small le is i =
    is i
    ∙ elim (cases_lt i k) [
      | inl lt ↦ rw (lt-ltb i k lt) refl
      | inr ge ↦ rw (le-ltb i k ge, bit_at_above a 32 i small (omega (arith, ge, le))) refl
    ]

-- a table where the set of one window is set
pub set_of-set : (sets : List ℕ) (k n : ℕ) → length sets ≡ 64 → k < 64 → (w : ℕ) → set_of (set sets k n) w ≡ (if w == k + 1 then n else set_of sets w)
set_of-set sets k n whole lt w =
    elim (cases_eq w (k + 1)) [
      | inl e ↦
          let channel : is_channel w ≡ true = and_from (nat_lt 0 w) (nat_le w 64) (lt-ltb 0 w (omega (arith, e))) (le-leb w 64 (omega (arith, e, lt))) in
          let back : w - 1 ≡ k = omega (arith, e) in
          let low : k < length sets = omega (arith, whole, lt) in
          rw (eq-eqb w (k + 1) e, channel) (ap (λ j. get_or (set sets k n) j 0) back ∙ get_or-set_same sets k n 0 low)
      | inr d ↦
          rw (ne_eqb w (k + 1) d) (elim (cases_Bool (is_channel w)) [
            | inl t ↦
                let positive : 0 < w = ltb-true 0 w (and_parts (nat_lt 0 w) (nat_le w 64) t).0 in
                let apart : w - 1 ≢ k = λ e. d (omega (arith, e, positive)) in
                rw t (get_or-set_other sets k (w - 1) n 0 apart)
            | inr f ↦ rw f refl
          ])
    ]
