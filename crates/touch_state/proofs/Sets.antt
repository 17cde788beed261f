-- Sets of ids.
use Rattle.std.proofs.Common.{ℕ, ◌+◌, ◌^◌, ◌<◌, ◌≤◌, ◌≢◌, ◌⊎◌, nat_lt, if◌then◌else◌, ◌==◌, ◌&&◌, Bool, true, false, not, ◌≡◌, zero, suc, refl, sym, ap, ◌∙◌, inl, inr, arith}
use Rattle.std.specs.Int.{bit_at}
use Rattle.std.proofs.lemmas.Bool.{cases_Bool, cases_eq, cases_lt, lt-ltb, le-ltb, eq-eqb, ne_eqb, eqb-false, both_ways, or_left}
use Rattle.std.proofs.lemmas.Nat.Bits.{bit_at-zero, bit_at_above, bit_at-lt, same_from_bits}
use Rattle.std.proofs.Math.Nat.{two-pow-succ}
use Rattle.bits32.specs.Set.{is_in, marked}
use Rattle.bits32.proofs.Members.{is_in_marked}
use Rattle.touch_state.specs.declared.row.Row.{Row}
use Rattle.touch_state.specs.Rows.{no_row, IsTaken}
use Rattle.touch_state.proofs.Passes.{same_side}

pub and_true : (b : Bool) → b ≡ (b && true)
and_true true = refl
and_true false = refl

pub and_false : (b : Bool) → (b && false) ≡ false
and_false true = refl
and_false false = refl

-- nothing is taken from an empty set
pub nothing_taken : (takes : ℕ → Bool) → IsTaken takes no_row no_row
nothing_taken takes = record { ids = λ i. rw (bit_at-zero i) refl; since = refl }

-- a set without numbers is empty
pub none_in : (n : ℕ) → ((i : ℕ) → is_in i n ≡ false) → n ≡ 0
none_in n none = same_from_bits n 0 (λ i. no_bit (bit_at n i) (bit_at-lt n i) (none i) ∙ sym (bit_at-zero i))
  where
    no_bit : (b : ℕ) → b < 2 → (b == 1) ≡ false → b ≡ 0
    no_bit b lt e = let n : b ≢ 1 = eqb-false b 1 e in elim (cases_lt b 1) [ inl l ↦ omega (arith, l) | inr g ↦ absurd (n (omega (arith, g, lt))) ]

pub empty_has_none : (i : ℕ) → is_in i 0 ≡ false
empty_has_none i = rw (bit_at-zero i) refl

-- nor of a row without ids
pub empty_taken : (takes : ℕ → Bool) (row : Row) → row.ids ≡ 0 → IsTaken takes row row
empty_taken takes row e = record { ids = λ i. nothing i ∙ sym (ap (λ b. b && not (takes i)) (nothing i)); since = refl }
  where
    nothing : (i : ℕ) → is_in i row.ids ≡ false
    nothing i = ap (λ n. is_in i n) e ∙ empty_has_none i

-- a set with a number is not empty
pub not_empty : (i set : ℕ) → is_in i set ≡ true → (set == 0) ≡ false
not_empty i set e = ne_eqb set 0 (λ z. both_ways (is_in i set) (rw (z, bit_at-zero i) refl) e)

pub marked_some : (n set : ℕ) → (marked n set == 0) ≡ false
marked_some n set = not_empty n (marked n set) (is_in_marked n n set ∙ or_left (n == n) (is_in n set) (eq-eqb n n refl))

-- the numbers of another set go one after the other
pub without_none : (i set : ℕ) (b : Bool) → is_in i set ≡ (is_in i set && not (nat_lt i 0 && b))
without_none i set b = rw (le-ltb i 0 (omega arith)) (and_true (is_in i set))

-- one number further
pub without_more : (set ids rest next k : ℕ) (hit : Bool) → is_in k ids ≡ hit
    → ((i : ℕ) → is_in i rest ≡ (is_in i set && not (nat_lt i k && is_in i ids)))
    → ((i : ℕ) → is_in i next ≡ (if hit then not (i == k) && is_in i rest else is_in i rest))
    → (i : ℕ) → is_in i next ≡ (is_in i set && not (nat_lt i (k + 1) && is_in i ids))
without_more set ids rest next k hit h was is i =
    elim (cases_eq i k) [ inl e ↦ is i ∙ at_it hit h e | inr n ↦ is i ∙ elsewhere hit n ]
  where
    at_it : (b : Bool) → is_in k ids ≡ b → i ≡ k → (if b then not (i == k) && is_in i rest else is_in i rest)
        ≡ (is_in i set && not (nat_lt i (k + 1) && is_in i ids))
    at_it true q e =
        let among : is_in i ids ≡ true = ap (λ j. is_in j ids) e ∙ q in
        rw (eq-eqb i k e, lt-ltb i (k + 1) (omega (arith, e)), among) (sym (and_false (is_in i set)))
    at_it false q e =
        let among : is_in i ids ≡ false = ap (λ j. is_in j ids) e ∙ q in
        was i ∙ (rw (le-ltb i k (omega (arith, e)), lt-ltb i (k + 1) (omega (arith, e)), among) refl)

    elsewhere : (b : Bool) → i ≢ k → (if b then not (i == k) && is_in i rest else is_in i rest)
        ≡ (is_in i set && not (nat_lt i (k + 1) && is_in i ids))
    elsewhere true n = rw (ne_eqb i k n) (was i ∙ ap (λ b. is_in i set && not (b && is_in i ids)) (same_side i k n))
    elsewhere false n = was i ∙ ap (λ b. is_in i set && not (b && is_in i ids)) (same_side i k n)

-- all of them
pub without_all : (set ids rest k : ℕ) → ids < 2 ^ 32 → 32 ≤ k → ((i : ℕ) → is_in i rest ≡ (is_in i set && not (nat_lt i k && is_in i ids)))
    → (i : ℕ) → is_in i rest ≡ (is_in i set && not (is_in i ids))
without_all set ids rest k small le was i =
    was i
    ∙ ap (λ b. is_in i set && not b)
    (elim (cases_lt i k) [
      | inl lt ↦ rw (lt-ltb i k lt) refl
      | inr ge ↦ rw (le-ltb i k ge, bit_at_above ids 32 i small (omega (arith, ge, le))) refl
    ])

below_of : (i k : ℕ) → i < suc k → i ≢ k → i < k
below_of i k lt d = elim (cases_lt i k) [ inl l ↦ l | inr g ↦ absurd (d (omega (arith, g, lt))) ]

below_its_power : (n : ℕ) → n < 2 ^ n
below_its_power zero = omega arith
below_its_power (suc n) =
    let h : n < 2 ^ n = below_its_power n in
    let d : 2 ^ suc n ≡ 2 ^ n + 2 ^ n = two-pow-succ n in
    omega (arith, h, d)

-- a set that is not empty has a number
pub some_in : (n : ℕ) → (n == 0) ≡ false → (i : ℕ) × (is_in i n ≡ true)
some_in n e =
    elim (looked n) [
      | inl found ↦ found
      | inr none ↦ absurd (eqb-false n 0 e (none_in n (λ i. elim (cases_lt i n) [ inl lt ↦ none i lt | inr ge ↦ rw (bit_at_above n n i (below_its_power n) ge) refl ])))
    ]
  where
    looked : (k : ℕ) → ((i : ℕ) × (is_in i n ≡ true)) ⊎ ((i : ℕ) → i < k → is_in i n ≡ false)
    looked zero = inr (λ i lt. absurd (omega (arith, lt)))
    looked (suc k) =
        elim (looked k) [
          | inl found ↦ inl found
          | inr none ↦
              elim (cases_Bool (is_in k n)) [
                | inl yes_in ↦ inl (k, yes_in)
                | inr not_in ↦ inr (λ i lt. elim (cases_eq i k) [ inl e ↦ ap (λ j. is_in j n) e ∙ not_in | inr d ↦ none i (below_of i k lt d) ])
              ]
        ]
