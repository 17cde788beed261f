-- What follows for sets from their numbers, and worked sets.
use Rattle.std.proofs.Common.{◌≡◌, ℕ, Bool, zero, suc, ◌^◌, ◌<◌, ◌==◌, true, false, if◌then◌else◌, List, [], ◌∷◌, ◌++◌, slice_get, Some, inl, inr, ◌⊎◌, ⊎_elim, refl, arith}
use Rattle.std.specs.Int.{bit_at}
use Rattle.std.proofs.lemmas.Nat.Bits.{bit_at-lt, same_from_bits_below}
use Rattle.bits32.specs.Set.{is_in, marked, cleared, members_below, members}

same_bit : (x y : ℕ) → x < 2 → y < 2 → (x == 1) ≡ (y == 1) → x ≡ y
same_bit zero zero h k e = refl
same_bit zero (suc zero) h k e = absurd (cc)
same_bit (suc zero) zero h k e = absurd (cc)
same_bit (suc zero) (suc zero) h k e = refl
same_bit (suc (suc x)) y h k e = absurd (omega arith)
same_bit zero (suc (suc y)) h k e = absurd (omega arith)
same_bit (suc zero) (suc (suc y)) h k e = absurd (omega arith)

-- sets with the same numbers are equal
pub same_set : (a b : ℕ) → a < 2 ^ 32 → b < 2 ^ 32 → ((n : ℕ) → n < 32 → is_in n a ≡ is_in n b) → a ≡ b
same_set a b h k same =
    same_from_bits_below 32 a b h k (λ n low. same_bit (bit_at a n) (bit_at b n) (bit_at-lt a n) (bit_at-lt b n) (same n low))

get_push : (xs : List ℕ) (m i n : ℕ) → slice_get (xs ++ m ∷ []) i ≡ Some n → (slice_get xs i ≡ Some n) ⊎ (n ≡ m)
get_push [] m zero n e = inr (cc)
get_push [] m (suc i) n e = absurd (cc)
get_push (x ∷ xs) m zero n e = inl e
get_push (x ∷ xs) m (suc i) n e = get_push xs m i n e

listed_more : (m set i n : ℕ) (b : Bool) → is_in m set ≡ b
    → slice_get (if b then members_below m set ++ m ∷ [] else members_below m set) i ≡ Some n
    → (slice_get (members_below m set) i ≡ Some n → (n < m) × (is_in n set ≡ true))
    → (n < suc m) × (is_in n set ≡ true)
listed_more m set i n true t e before =
    ⊎_elim
    (λ (old : slice_get (members_below m set) i ≡ Some n). let p : (n < m) × (is_in n set ≡ true) = before old in (omega arith, p.1))
    (λ (here : n ≡ m). (omega arith, rw here t))
    (get_push (members_below m set) m i n e)
listed_more m set i n false t e before = let p : (n < m) × (is_in n set ≡ true) = before e in (omega arith, p.1)

-- each number that is listed is one of the set
pub listed_in : (m set i n : ℕ) → slice_get (members_below m set) i ≡ Some n → (n < m) × (is_in n set ≡ true)
unfolding members_below
listed_in zero set i n e = absurd (cc)
listed_in (suc m) set i n e = listed_more m set i n (is_in m set) refl e (listed_in m set i n)

-- ---- the set of 0 and 2

pub two_fingers : marked 2 (marked 0 0) ≡ 5
unfolding marked cleared
two_fingers = refl

pub listed : members 5 ≡ 0 ∷ 2 ∷ []
unfolding members_below
listed = refl

pub without_first : cleared 0 5 ≡ 4
unfolding cleared
without_first = refl

pub clear_twice : cleared 1 5 ≡ 5
unfolding cleared
clear_twice = refl
