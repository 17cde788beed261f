-- Sets of ids and the rising lists of their numbers.
use Rattle.std.proofs.Common.{◌≡◌, ◌≢◌, ℕ, Bool, zero, suc, ◌^◌, ◌<◌, ◌≤◌, ◌==◌, ◌||◌, ◌&&◌, not, true, false, if◌then◌else◌, List, [], ◌∷◌, ◌++◌, length, slice_get, Some, inl, inr, ◌⊎◌, ⊎_elim, refl, sym, ap, ◌∙◌, arith, nat_eq, eq-eqb, take}
use Rattle.std.specs.List.{remove}
use Rattle.std.specs.Cmp.Lexicographic.{pointwise, same_text}
use Rattle.std.proofs.lemmas.List.Edits.{remove-append_left}
use Rattle.std.proofs.lemmas.Option.{slice_get_within}
use Rattle.std.proofs.lemmas.Bool.{cases_eq, ne_eqb, false≢true}
use Rattle.std.proofs.lemmas.Nat.Bits.{bit_at_above}
use Rattle.std.specs.Int.{bit_at}
use Rattle.input_types.specs.declared.pointer.Pointer.{Pointer}
use Rattle.input_types.specs.Pointers.{IsRising}
use Rattle.input_types.specs.Gestures.{ids_of}
use Rattle.bits32.specs.Set.{is_in, members_below, members}
use Rattle.bits32.proofs.Members.{members_at}
use Rattle.bits32.proofs.Laws.{same_set, listed_in}

-- ---- sets with the same list are the same

other_is_in : (a b n : ℕ) → n < 32 → members a ≡ members b → is_in n a ≡ true → is_in n b ≡ true
other_is_in a b n low e i =
    let at : slice_get (members b) (length (members_below n a)) ≡ Some n = rw (← e) (members_at 32 n a low i) in
    (listed_in 32 b (length (members_below n a)) n at).1

both_ways : (x y : Bool) → (x ≡ true → y ≡ true) → (y ≡ true → x ≡ true) → x ≡ y
both_ways true y f g = sym (f refl)
both_ways false true f g = g refl
both_ways false false f g = refl

pub same_by_members : (a b : ℕ) → a < 2 ^ 32 → b < 2 ^ 32 → members a ≡ members b → a ≡ b
same_by_members a b h k e =
    same_set a b h k (λ n low. both_ways (is_in n a) (is_in n b) (other_is_in a b n low e) (other_is_in b a n low (sym e)))

same_as_itself : (xs : List ℕ) → pointwise nat_eq xs xs ≡ true
same_as_itself [] = refl
same_as_itself (x ∷ xs) = rw (eq-eqb x x refl) (same_as_itself xs)

differ_by_members : (a b : ℕ) (v : Bool) → a < 2 ^ 32 → b < 2 ^ 32 → a ≢ b → pointwise nat_eq (members a) (members b) ≡ v → v ≡ false
differ_by_members a b true h k d e = absurd (d (same_by_members a b h k (same_text (members a) (members b) (sym e))))
differ_by_members a b false h k d e = refl

-- two sets are compared as their lists are
pub same_lists : (a b : ℕ) → a < 2 ^ 32 → b < 2 ^ 32 → nat_eq a b ≡ pointwise nat_eq (members a) (members b)
same_lists a b h k =
    ⊎_elim
    (λ (e : a ≡ b). rw e (eq-eqb b b refl ∙ sym (same_as_itself (members b))))
    (λ (d : a ≢ b). ne_eqb a b d ∙ sym (differ_by_members a b (pointwise nat_eq (members a) (members b)) h k d refl))
    (cases_eq a b)

-- ---- one number more, above all others

none_from : (n set : ℕ) → ((j : ℕ) → is_in j set ≡ true → j < n) → (j : ℕ) → n ≤ j → (v : Bool) → is_in j set ≡ v → v ≡ false
none_from n set top j at true e = absurd (let low : j < n = top j e in omega arith)
none_from n set top j at false e = refl

last_below : (m n set more : ℕ) → ((k : ℕ) → is_in k more ≡ (k == n || is_in k set)) → m ≤ n → members_below m more ≡ members_below m set
unfolding members_below
last_below zero n set more has h = refl
last_below (suc m) n set more has h =
    let other : (m == n) ≡ false = ne_eqb m n (λ e. omega (arith, e)) in
    rw (has m, other, last_below m n set more has (omega arith)) refl

last_above : (m n set more : ℕ) → ((k : ℕ) → is_in k more ≡ (k == n || is_in k set)) → ((j : ℕ) → is_in j set ≡ true → j < n) → n < m
    → members_below m more ≡ members_below m set ++ n ∷ []
unfolding members_below
last_above zero n set more has top h = absurd (omega arith)
last_above (suc m) n set more has top h =
    ⊎_elim
    (λ (e : m ≡ n).
    rw (has m, e, eq-eqb n n refl, none_from n set top n (omega arith) (is_in n set) refl, last_below n n set more has (omega arith)) refl)
    (λ (d : m ≢ n).
    rw (has m, ne_eqb m n d, none_from n set top m (omega arith) (is_in m set) refl, last_above m n set more has top (omega arith)) refl)
    (cases_eq m n)

pub members_of_marked : (n set more : ℕ) → n < 32 → ((k : ℕ) → is_in k more ≡ (k == n || is_in k set)) → ((j : ℕ) → is_in j set ≡ true → j < n)
    → members more ≡ members set ++ n ∷ []
members_of_marked n set more low has top = last_above 32 n set more has top low

-- ---- one number less

taken_below : (m n set less : ℕ) → ((k : ℕ) → is_in k less ≡ (not (k == n) && is_in k set)) → m ≤ n → members_below m less ≡ members_below m set
unfolding members_below
taken_below zero n set less has h = refl
taken_below (suc m) n set less has h =
    let other : (m == n) ≡ false = ne_eqb m n (λ e. omega (arith, e)) in
    rw (has m, other, taken_below m n set less has (omega arith)) refl

remove_last : (xs : List ℕ) (n : ℕ) → remove (xs ++ n ∷ []) (length xs) ≡ xs
remove_last [] n = refl
remove_last (x ∷ xs) n = ap (λ ys. x ∷ ys) (remove_last xs n)

taken_more : (m n set : ℕ) (v : Bool) → is_in m set ≡ v → n < m → is_in n set ≡ true
    → (if v then remove (members_below m set) (length (members_below n set)) ++ m ∷ [] else remove (members_below m set) (length (members_below n set)))
    ≡ remove (if v then members_below m set ++ m ∷ [] else members_below m set) (length (members_below n set))
taken_more m n set true e h i =
    sym (remove-append_left (members_below m set) (m ∷ []) (length (members_below n set))
    (slice_get_within (members_below m set) (length (members_below n set)) n (members_at m n set h i)))
taken_more m n set false e h i = refl

taken_above : (m n set less : ℕ) → ((k : ℕ) → is_in k less ≡ (not (k == n) && is_in k set)) → n < m → is_in n set ≡ true
    → members_below m less ≡ remove (members_below m set) (length (members_below n set))
unfolding members_below
taken_above zero n set less has h i = absurd (omega arith)
taken_above (suc m) n set less has h i =
    ⊎_elim
    (λ (e : m ≡ n). rw (has m, e, eq-eqb n n refl, i, taken_below n n set less has (omega arith)) (sym (remove_last (members_below n set) n)))
    (λ (d : m ≢ n). rw (has m, ne_eqb m n d, taken_above m n set less has (omega arith) i) (taken_more m n set (is_in m set) refl (omega arith) i))
    (cases_eq m n)

get_push : (xs : List ℕ) (m i n : ℕ) → slice_get (xs ++ m ∷ []) i ≡ Some n → (slice_get xs i ≡ Some n) ⊎ ((n ≡ m) × (i ≡ length xs))
get_push [] m zero n e = inr (cc, refl)
get_push [] m (suc i) n e = absurd (cc)
get_push (x ∷ xs) m zero n e = inl e
get_push (x ∷ xs) m (suc i) n e =
    ⊎_elim (λ (a : slice_get xs i ≡ Some n). inl a) (λ (b : (n ≡ m) × (i ≡ length xs)). inr (b.0, ap suc b.1)) (get_push xs m i n e)

place_more : (m set i n : ℕ) (v : Bool) → (slice_get (members_below m set) i ≡ Some n → i ≡ length (members_below n set))
    → slice_get (if v then members_below m set ++ m ∷ [] else members_below m set) i ≡ Some n → i ≡ length (members_below n set)
place_more m set i n true before e =
    ⊎_elim (λ (a : slice_get (members_below m set) i ≡ Some n). before a)
    (λ (b : (n ≡ m) × (i ≡ length (members_below m set))). rw (b.0) (b.1)) (get_push (members_below m set) m i n e)
place_more m set i n false before e = before e

-- a number stands at one place
place_is : (m set i n : ℕ) → slice_get (members_below m set) i ≡ Some n → i ≡ length (members_below n set)
unfolding members_below
place_is zero set i n e = absurd (cc)
place_is (suc m) set i n e = place_more m set i n (is_in m set) (place_is m set i n) e

pub members_of_cleared : (n set less i : ℕ) → ((k : ℕ) → is_in k less ≡ (not (k == n) && is_in k set)) → slice_get (members set) i ≡ Some n
    → members less ≡ remove (members set) i
members_of_cleared n set less i has e =
    let in_it : (n < 32) × (is_in n set ≡ true) = listed_in 32 set i n e in
    rw (place_is 32 set i n e) (taken_above 32 n set less has (in_it.0) (in_it.1))

-- ---- the ids of a list of pointers, one by one

pub ids_more : (ps : List Pointer) (k : ℕ) (p : Pointer) → slice_get ps k ≡ Some p → ids_of (take (suc k) ps) ≡ ids_of (take k ps) ++ p.id ∷ []
ids_more [] k p e = absurd (cc)
ids_more (q ∷ ps) zero p e = let same : q ≡ p = cc in ap (λ x. x.id ∷ []) same
ids_more (q ∷ ps) (suc k) p e = ap (λ xs. q.id ∷ xs) (ids_more ps k p e)

next_rises : (ps : List Pointer) (k : ℕ) (p q : Pointer) → IsRising ps → slice_get ps k ≡ Some p → slice_get ps (suc k) ≡ Some q → p.id < q.id
next_rises [] k p q h e f = absurd (cc)
next_rises (a ∷ []) zero p q h e f = absurd (cc)
next_rises (a ∷ []) (suc k) p q h e f = absurd (cc)
next_rises (a ∷ b ∷ ps) zero p q h e f =
    let first : a ≡ p = cc in
    let second : b ≡ q = cc in
    rw (← first, ← second) (h.0)
next_rises (a ∷ b ∷ ps) (suc k) p q h e f = next_rises (b ∷ ps) k p q h.1 e f

-- what is in a set to which the id at place k was put is below the next one
pub below_next : (ps : List Pointer) (k : ℕ) (p q : Pointer) (n set more j : ℕ) → IsRising ps → slice_get ps k ≡ Some p → slice_get ps (suc k) ≡ Some q
    → n ≡ p.id → is_in j more ≡ (j == n || is_in j set) → (is_in j set ≡ true → j < p.id) → is_in j more ≡ true → j < q.id
below_next ps k p q n set more j rises e f is has old i =
    let up : p.id < q.id = next_rises ps k p q rises e f in
    ⊎_elim
    (λ (same : j ≡ n). let at : j ≡ p.id = same ∙ is in omega (arith, at, up))
    (λ (other : j ≢ n).
    let low : j < p.id = old (rw (ne_eqb j n other) at (sym has ∙ i)) in
    omega (arith, low, up))
    (cases_eq j n)

-- ---- the set without numbers

pub none_listed : members 0 ≡ []
unfolding members_below
none_listed = refl

pub none_in : (j : ℕ) → is_in j 0 ≡ true → ⊥
none_in j i = let bit : bit_at 0 j ≡ 0 = bit_at_above 0 0 j (omega arith) (omega arith) in false≢true (rw bit at i)
