-- Sets of ids that are taken: how many, and the least number that is not in one.
use Rattle.std.specs.Prelude.{◌≡◌, ◌≢◌, ℕ, zero, suc, ◌+◌, ◌<◌, ◌≤◌, ◌⊎◌, Bool, true, false, ◌||◌, nat_eq, List, [], ◌∷◌, ◌++◌, length, if◌then◌else◌}
use Rattle.std.proofs.Common.{◌∙◌, ap, refl, arith, inl, inr, eq-eqb, ne_eqb, length-append}
use Rattle.std.proofs.lemmas.Bool.{cases_eq}
use Rattle.std.proofs.lemmas.Nat.Bits.{bit_at-zero}
use Rattle.bits32.specs.Set.{is_in, members_below, IsFull}
use Rattle.device_reader.specs.PointerIds.PointerIds.{least_from}

-- `b` has the numbers of `a` and `n`
abbrev pub HasOneMore : ℕ → ℕ → ℕ → Type 0
HasOneMore n a b = (k : ℕ) → is_in k b ≡ (nat_eq k n || is_in k a)

pub none_in : (k : ℕ) → is_in k 0 ≡ false
none_in k = rw (bit_at-zero k) refl

same_length : (t : Bool) (xs ys : List ℕ) (n : ℕ) → length xs ≡ length ys
    → length (if t then xs ++ n ∷ [] else xs) ≡ length (if t then ys ++ n ∷ [] else ys)
same_length true xs ys n e = omega (arith, length-append xs (n ∷ []), length-append ys (n ∷ []), e)
same_length false xs ys n e = e

near_length : (t : Bool) (xs ys : List ℕ) (n : ℕ) → length xs ≤ length ys + 1
    → length (if t then xs ++ n ∷ [] else xs) ≤ length (if t then ys ++ n ∷ [] else ys) + 1
near_length true xs ys n e = omega (arith, length-append xs (n ∷ []), length-append ys (n ∷ []), e)
near_length false xs ys n e = e

least_length : (t : Bool) (ys : List ℕ) (n : ℕ) → length ys ≤ length (if t then ys ++ n ∷ [] else ys)
least_length true ys n = omega (arith, length-append ys (n ∷ []))
least_length false ys n = omega arith

other_in : (k n a b : ℕ) → k ≢ n → HasOneMore n a b → is_in k b ≡ is_in k a
other_in k n a b ne h = h k ∙ ap (λ t. t || is_in k a) (ne_eqb k n ne)

same_below : (m n a b : ℕ) → HasOneMore n a b → m ≤ n → length (members_below m b) ≡ length (members_below m a)
unfolding members_below
same_below zero n a b h le = refl
same_below (suc m) n a b h le =
    let ne : m ≢ n = omega arith in
    rw (other_in m n a b ne h) (same_length (is_in m a) (members_below m b) (members_below m a) m (same_below m n a b h (omega arith)))

one_more_at : (m n a b : ℕ) → HasOneMore n a b → (m ≡ n) ⊎ (m ≢ n) → length (members_below m b) ≤ length (members_below m a) + 1
    → length (members_below (suc m) b) ≤ length (members_below (suc m) a) + 1
unfolding members_below
one_more_at m n a b h (inl here) before =
    let same : length (members_below m b) ≡ length (members_below m a) = same_below m n a b h (omega arith) in
    let new : is_in m b ≡ true = h m ∙ ap (λ t. t || is_in m a) (eq-eqb m n here) in
    rw new (omega (arith, length-append (members_below m b) (m ∷ []), same, least_length (is_in m a) (members_below m a) m))
one_more_at m n a b h (inr other) before =
    rw (other_in m n a b other h) (near_length (is_in m a) (members_below m b) (members_below m a) m before)

-- a set with one number more has at most one more
pub one_more : (m n a b : ℕ) → HasOneMore n a b → length (members_below m b) ≤ length (members_below m a) + 1
unfolding members_below
one_more zero n a b h = omega arith
one_more (suc m) n a b h = one_more_at m n a b h (cases_eq m n) (one_more m n a b h)

-- a full set has 32
pub full : (m set : ℕ) → IsFull set → m ≤ 32 → length (members_below m set) ≡ m
unfolding members_below
full zero set f le = refl
full (suc m) set f le = rw (f m (omega arith)) (omega (arith, length-append (members_below m set) (m ∷ []), full m set f (omega arith)))

least_at : (taken : ℕ → Bool) (n m left : ℕ) → m ≤ n → taken n ≡ false → ((k : ℕ) → k < n → taken k ≡ true)
    → (m ≡ n) ⊎ (m ≢ n) → (m ≢ n → least_from taken (m + 1) left ≡ n) → least_from taken m (suc left) ≡ n
least_at taken n m left le free low (inl here) next =
    let not_taken : taken m ≡ false = ap taken here ∙ free in
    rw not_taken here
least_at taken n m left le free low (inr other) next =
    let is_taken : taken m ≡ true = low m (omega arith) in
    rw is_taken (next other)

-- the first number that is not taken is found, where it is among those that are looked at
pub least_found : (taken : ℕ → Bool) (n m left : ℕ) → m ≤ n → n < m + left → taken n ≡ false → ((k : ℕ) → k < n → taken k ≡ true)
    → least_from taken m left ≡ n
least_found taken n m zero le lt free low = absurd (omega arith)
least_found taken n m (suc left) le lt free low =
    least_at taken n m left le free low (cases_eq m n)
    (λ ne. least_found taken n (m + 1) left (omega (arith, ne)) (omega arith) free low)
