-- What `mark` and `clear` do to each number, and the place of a number in the list of the set's numbers.
use Rattle.std.proofs.Common.{◌≡◌, ◌≢◌, ℕ, zero, suc, ◌+◌, ◌-◌, ◌*◌, ◌%◌, ◌^◌, ◌<◌, ◌≤◌, ◌==◌, ◌||◌, ◌&&◌, not, true, false, if◌then◌else◌, List, [], ◌∷◌, ◌++◌, length, slice_get, Some, ◌∙◌, refl, inl, inr, ⊎_elim, ◌⊎◌, arith, add-one}
use Rattle.std.specs.Int.{bit_at, w32}
use Rattle.std.specs.Int.RustNames.{bit_and, bit_or, count_ones}
use Rattle.std.specs.Int.Count.{ones, ones_cat}
use Rattle.std.specs.Int.Bits.{or_add_and}
use Rattle.std.proofs.Math.Nat.{mod-eq_of_lt}
use Rattle.std.proofs.lemmas.List.{length_push}
use Rattle.std.proofs.lemmas.Nat.{and_comm, and_le_l, and-not, pow_below, mod-pow-add, mod_below, pow_pos, one_shl, and_mask}
use Rattle.std.proofs.lemmas.Nat.Bits.{and_pow, bit_at_or, bit_at_and, bit_at_not, bit_at-pow_same, bit_at-pow_other, bit_at-lt, bit_at_above}
use Rattle.std.proofs.lemmas.Bool.{cases_eq, cases_lt, eq-eqb, ne_eqb, false≢true}
use Rattle.bits32.specs.Set.{is_in, cleared, marked, members_below, members}

-- ---- `mark` and `clear`

pub or_is_marked : (n set : ℕ) → bit_or set (2 ^ n) ≡ marked n set
unfolding cleared marked
or_is_marked n set =
    let both : bit_or set (2 ^ n) + bit_at set n * 2 ^ n ≡ set + 2 ^ n = rw (← and_pow set n) (or_add_and set (2 ^ n)) in
    let within : bit_at set n * 2 ^ n ≤ set = rw (← and_pow set n) (and_le_l set (2 ^ n)) in
    omega arith

pub and_is_cleared : (n set : ℕ) → n < 32 → set < 2 ^ 32 → bit_and set (2 ^ 32 - 1 - 2 ^ n) ≡ cleared n set
unfolding cleared
and_is_cleared n set h b =
    let parts : bit_and set (2 ^ 32 - 1 - 2 ^ n) + bit_at set n * 2 ^ n ≡ set =
    rw (← and_pow set n, and_comm set (2 ^ n), and_comm set (2 ^ 32 - 1 - 2 ^ n)) (and-not 32 (2 ^ n) set (pow_below n 32 h) b) in
    omega arith

bit_of_mark : (k n set : ℕ) → (k ≡ n) ⊎ (k ≢ n) → is_in k (bit_or set (2 ^ n)) ≡ (k == n || is_in k set)
bit_of_mark k n set (inl same) =
    let bit : bit_at (bit_or set (2 ^ n)) k ≡ 1 =
    bit_at_or set (2 ^ n) k ∙ (rw same (rw (bit_at-pow_same n) (omega (arith, bit_at-lt set n)))) in
    rw (bit, eq-eqb k n same) refl
bit_of_mark k n set (inr other) =
    let bit : bit_at (bit_or set (2 ^ n)) k ≡ bit_at set k =
    bit_at_or set (2 ^ n) k ∙ (rw (bit_at-pow_other n k other) (omega arith)) in
    rw (bit, ne_eqb k n other) refl

-- n is in the set after `mark`, and each other number is in it where it was
pub is_in_marked : (k n set : ℕ) → is_in k (marked n set) ≡ (k == n || is_in k set)
is_in_marked k n set = rw (← or_is_marked n set) (bit_of_mark k n set (cases_eq k n))

bit_of_clear : (k n set : ℕ) → n < 32 → k < 32 → (k ≡ n) ⊎ (k ≢ n) → is_in k (bit_and set (2 ^ 32 - 1 - 2 ^ n)) ≡ (not (k == n) && is_in k set)
bit_of_clear k n set h low (inl same) =
    let bit : bit_at (bit_and set (2 ^ 32 - 1 - 2 ^ n)) k ≡ 0 =
    bit_at_and set (2 ^ 32 - 1 - 2 ^ n) k ∙ (rw (bit_at_not w32 (2 ^ n) k (pow_below n 32 h) low, same, bit_at-pow_same n) (omega arith)) in
    rw (bit, eq-eqb k n same) refl
bit_of_clear k n set h low (inr other) =
    let bit : bit_at (bit_and set (2 ^ 32 - 1 - 2 ^ n)) k ≡ bit_at set k =
    bit_at_and set (2 ^ 32 - 1 - 2 ^ n) k ∙ (rw (bit_at_not w32 (2 ^ n) k (pow_below n 32 h) low, bit_at-pow_other n k other) (omega (arith, bit_at-lt set k))) in
    rw (bit, ne_eqb k n other) refl

none_above : (k n set : ℕ) → set < 2 ^ 32 → 32 ≤ k → is_in k (bit_and set (2 ^ 32 - 1 - 2 ^ n)) ≡ (not (k == n) && is_in k set)
none_above k n set b high =
    let old : bit_at set k ≡ 0 = bit_at_above set 32 k b high in
    let bit : bit_at (bit_and set (2 ^ 32 - 1 - 2 ^ n)) k ≡ 0 = bit_at_and set (2 ^ 32 - 1 - 2 ^ n) k ∙ (rw old (omega arith)) in
    rw (bit, old) (elim (k == n) as (λ v. false ≡ (not v && false)) [ true ↦ refl | false ↦ refl ])

-- n is not in the set after `clear`, and each other number is in it where it was
pub is_in_cleared : (k n set : ℕ) → n < 32 → set < 2 ^ 32 → is_in k (cleared n set) ≡ (not (k == n) && is_in k set)
is_in_cleared k n set h b =
    rw (← and_is_cleared n set h b)
    (⊎_elim
    (λ (low : k < 32). bit_of_clear k n set h low (cases_eq k n))
    (λ (high : 32 ≤ k). none_above k n set b high)
    (cases_lt k 32))

-- ---- how many, and at which place

one_bit : (b : ℕ) → b < 2 → count_ones b ≡ b
unfolding ones
one_bit zero h = refl
one_bit (suc zero) h = refl
one_bit (suc (suc b)) h = absurd (omega arith)

-- one digit more
count_more : (b n : ℕ) (xs : List ℕ) → b < 2 → b + length xs ≡ length (if b == 1 then xs ++ n ∷ [] else xs)
count_more zero n xs h = omega arith
count_more (suc zero) n xs h = rw (length_push xs n) (omega arith)
count_more (suc (suc b)) n xs h = absurd (omega arith)

-- the digits below n count the numbers below n
pub ones_below : (n set : ℕ) → count_ones (set % 2 ^ n) ≡ length (members_below n set)
unfolding members_below
ones_below zero set = one_bit (set % 2 ^ 0) (omega (arith, mod_below set 1 (omega arith))) ∙ omega (arith, mod_below set 1 (omega arith))
ones_below (suc n) set =
    let split : set % 2 ^ suc n ≡ bit_at set n * 2 ^ n + set % 2 ^ n =
    (let one : 1 + n ≡ suc n = omega arith in rw (← one) (mod-pow-add set 1 n)) in
    rw (split, ones_cat n (bit_at set n) (set % 2 ^ n) (mod_below set (2 ^ n) (pow_pos n)), one_bit (bit_at set n) (bit_at-lt set n), ones_below n set)
    (count_more (bit_at set n) n (members_below n set) (bit_at-lt set n))

pub ones_all : (set : ℕ) → set < 2 ^ 32 → count_ones set ≡ length (members set)
ones_all set b =
    let whole : set % 2 ^ 32 ≡ set = mod-eq_of_lt b in
    rw whole at (ones_below 32 set)

-- a mask of the digits below n leaves the numbers below n
pub ones_mask : (n set : ℕ) → n < 32 → count_ones (bit_and set (1 * 2 ^ n % 2 ^ 32 - 1)) ≡ length (members_below n set)
ones_mask n set h = rw (one_shl n 32 h, and_mask set n) (ones_below n set)

-- each number of a set is below 32
pub in_below : (n set : ℕ) → set < 2 ^ 32 → is_in n set ≡ true → n < 32
in_below n set b i =
    ⊎_elim (λ (low : n < 32). low)
    (λ (high : 32 ≤ n). let bit : bit_at set n ≡ 0 = bit_at_above set 32 n b high in absurd (false≢true (rw bit at i)))
    (cases_lt n 32)

pub below_in : (n set : ℕ) → is_in n set ≡ true → length (members_below (n + 1) set) ≡ length (members_below n set) + 1
unfolding members_below
below_in n set i = rw (add-one n, i) (length_push (members_below n set) n)

pub below_out : (n set : ℕ) → is_in n set ≡ false → length (members_below (n + 1) set) ≡ length (members_below n set)
unfolding members_below
below_out n set i = rw (add-one n, i) refl

get_front : (xs ys : List ℕ) (i x : ℕ) → slice_get xs i ≡ Some x → slice_get (xs ++ ys) i ≡ Some x
get_front [] ys i x h = absurd (cc)
get_front (y ∷ xs) ys zero x h = h
get_front (y ∷ xs) ys (suc i) x h = get_front xs ys i x h

get_last : (xs : List ℕ) (n : ℕ) → slice_get (xs ++ n ∷ []) (length xs) ≡ Some n
get_last [] n = refl
get_last (x ∷ xs) n = get_last xs n

-- a number of the set stands behind those that are smaller
pub members_at : (m n set : ℕ) → n < m → is_in n set ≡ true → slice_get (members_below m set) (length (members_below n set)) ≡ Some n
unfolding members_below
members_at zero n set h i = absurd (omega arith)
members_at (suc m) n set h i =
    ⊎_elim
    (λ (here : n ≡ m). rw (here, rw here at i) (get_last (members_below m set) m))
    (λ (other : n ≢ m).
    let before : slice_get (members_below m set) (length (members_below n set)) ≡ Some n = members_at m n set (omega arith) i in
    elim (is_in m set) as (λ v. slice_get (if v then members_below m set ++ m ∷ [] else members_below m set) (length (members_below n set)) ≡ Some n)
    [ true ↦ get_front (members_below m set) (m ∷ []) (length (members_below n set)) n before | false ↦ before ])
    (cases_eq n m)
