-- What a frame releases and what it leaves.
use Rattle.std.proofs.Common.{◌≡◌, ℕ, suc, ◌≤◌, true, false, if◌then◌else◌, List, [], ◌∷◌, ◌++◌, reverse, length, take, drop, Option, refl, sym, ◌∙◌, ap, subst, arith}
use Rattle.std.proofs.lemmas.List.{take-append-le, drop-append-le}
use Rattle.motion_batch.specs.declared.sample.Sample.{Sample}
use Rattle.motion_batch.specs.Pairs.{Mark}
use Rattle.motion_batch.specs.Rule.{count_due, due_of, is_due, left_by, reaches}
use Rattle.motion_batch.proofs.Grouping.{AllBelow, Chained, Falling, ShutFor, newer, older, reaches_less, reverse_with}

pub chained_newer : (at : Option ℕ) (qs : List Sample) → Chained qs → Chained (newer at qs)
chained_newer at [] c = tt
chained_newer at (q ∷ []) c = elim (is_due at q) as (λ b. Chained (if b then [] else q ∷ [])) [ true ↦ tt | false ↦ tt ]
chained_newer at (q ∷ r ∷ qs) c =
    elim (is_due at q) as (λ b. Chained (if b then [] else q ∷ newer at (r ∷ qs))) [
      | true ↦ tt
      | false ↦ elim (is_due at r) as (λ b. Chained (if b then [] else r ∷ newer at qs) → Chained (q ∷ (if b then [] else r ∷ newer at qs))) [
        | true ↦ λ d. tt
        | false ↦ λ d. (c.0, d)
      ] (chained_newer at (r ∷ qs) c.1)
    ]

chained_rest : (q : Sample) (qs : List Sample) → Chained (q ∷ qs) → Chained qs
chained_rest q [] c = tt
chained_rest q (r ∷ qs) c = c.1

pub chained_older : (at : Option ℕ) (qs : List Sample) → Chained qs → Chained (older at qs)
chained_older at [] c = tt
chained_older at (q ∷ qs) c = elim (is_due at q) as (λ b. Chained (if b then q ∷ qs else older at qs)) [ true ↦ c | false ↦ chained_older at qs (chained_rest q qs c) ]

pub low_newer : (at : Option ℕ) (t : ℕ) (qs : List Sample) → AllBelow t qs → AllBelow t (newer at qs)
low_newer at t [] a = tt
low_newer at t (q ∷ qs) a = elim (is_due at q) as (λ b. AllBelow t (if b then [] else q ∷ newer at qs)) [ true ↦ tt | false ↦ (a.0, low_newer at t qs a.1) ]

pub falling_newer : (at : Option ℕ) (qs : List Sample) → Falling qs → Falling (newer at qs)
falling_newer at [] f = tt
falling_newer at (q ∷ qs) f = elim (is_due at q) as (λ b. Falling (if b then [] else q ∷ newer at qs)) [ true ↦ tt | false ↦ (low_newer at q.moment qs f.0, falling_newer at qs f.1) ]

pub few_newer : (at : Option ℕ) (qs : List Sample) → length (newer at qs) ≤ length qs
few_newer at [] = omega arith
few_newer at (q ∷ qs) =
    let rest : length (newer at qs) ≤ length qs = few_newer at qs in
    elim (is_due at q) as (λ b. length (if b then [] else q ∷ newer at qs) ≤ suc (length qs)) [ true ↦ omega arith | false ↦ omega (arith, rest) ]

pub few_older : (at : Option ℕ) (qs : List Sample) → length (older at qs) ≤ length qs
few_older at [] = omega arith
few_older at (q ∷ qs) =
    let rest : length (older at qs) ≤ length qs = few_older at qs in
    elim (is_due at q) as (λ b. length (if b then q ∷ qs else older at qs) ≤ suc (length qs)) [ true ↦ omega arith | false ↦ omega (arith, rest) ]

pub newer_all : (at : Option ℕ) (qs : List Sample) → older at qs ≡ [] → newer at qs ≡ qs
newer_all at [] e = refl
newer_all at (q ∷ qs) e =
    elim (is_due at q) as (λ b. (if b then q ∷ qs else older at qs) ≡ [] → (if b then [] else q ∷ newer at qs) ≡ q ∷ qs) [
      | true ↦ λ none. absurd (cc)
      | false ↦ λ none. ap (λ xs. q ∷ xs) (newer_all at qs none)
    ] e

pub shut_older : (k : ℕ) (at : Option ℕ) (qs : List Sample) (rest : List Mark) (q : Sample) (o : List Sample) → older at qs ≡ q ∷ o → ShutFor k qs rest → ShutFor k (q ∷ o) rest
shut_older k at [] rest q o e shut = absurd (cc)
shut_older k at (x ∷ []) rest q o e shut =
    elim (is_due at x) as (λ b. (if b then x ∷ [] else []) ≡ q ∷ o → ShutFor k (q ∷ o) rest) [
      | true ↦ λ is. subst (λ (xs : List Sample). ShutFor k xs rest) is shut
      | false ↦ λ is. absurd (cc)
    ] e
shut_older k at (x ∷ y ∷ ys) rest q o e shut =
    elim (is_due at x) as (λ b. (if b then x ∷ y ∷ ys else older at (y ∷ ys)) ≡ q ∷ o → ShutFor k (q ∷ o) rest) [
      | true ↦ λ is. subst (λ (xs : List Sample). ShutFor k xs rest) is shut
      | false ↦ λ is. shut_older k at (y ∷ ys) rest q o is shut
    ] e

-- all are due
AllDue : Option ℕ → List Sample → Type 0
AllDue at [] = Unit {0}
AllDue at (q ∷ qs) = (is_due at q ≡ true) × AllDue at qs

below_due : (at : Option ℕ) (t : ℕ) (qs : List Sample) → reaches at t ≡ true → AllBelow t qs → AllDue at qs
unfolding AllDue
below_due at t [] e a = tt
below_due at t (q ∷ qs) e a = (reaches_less at q.moment t a.0 e, below_due at t qs e a.1)

due_append : (at : Option ℕ) (xs ys : List Sample) → AllDue at xs → AllDue at ys → AllDue at (xs ++ ys)
unfolding AllDue
due_append at [] ys a b = b
due_append at (x ∷ xs) ys a b = (a.0, due_append at xs ys a.1 b)

due_reversed : (at : Option ℕ) (qs : List Sample) → AllDue at qs → AllDue at (reverse qs)
unfolding AllDue
due_reversed at [] a = tt
due_reversed at (q ∷ qs) a = subst (AllDue at) (sym (reverse_with q qs)) (due_append at (reverse qs) (q ∷ []) (due_reversed at qs a.1) (a.0, tt))

count_all : (at : Option ℕ) (xs : List Sample) → AllDue at xs → count_due at xs ≡ length xs
unfolding AllDue
count_all at [] a = refl
count_all at (x ∷ xs) a = rw a.0 (ap suc (count_all at xs a.1))

-- one that is not due ends what is due
count_last : (at : Option ℕ) (xs : List Sample) (q : Sample) → is_due at q ≡ false → count_due at (xs ++ q ∷ []) ≡ count_due at xs
count_last at [] q e = rw e refl
count_last at (x ∷ xs) q e = ap (λ n. if is_due at x then suc n else 0) (count_last at xs q e)

count_few : (at : Option ℕ) (xs : List Sample) → count_due at xs ≤ length xs
count_few at [] = omega arith
count_few at (x ∷ xs) =
    let rest : count_due at xs ≤ length xs = count_few at xs in
    elim (is_due at x) as (λ b. (if b then suc (count_due at xs) else 0) ≤ suc (length xs)) [ true ↦ omega (arith, rest) | false ↦ omega arith ]

take_all : {X : Type 0} (xs : List X) → take (length xs) xs ≡ xs
take_all [] = refl
take_all (x ∷ xs) = ap (λ ys. x ∷ ys) (take_all xs)

drop_all : {X : Type 0} (xs : List X) → drop (length xs) xs ≡ []
drop_all [] = refl
drop_all (x ∷ xs) = drop_all xs

-- from the oldest on, what is due is what is older, and what is left is what is newer
pub split_due : (at : Option ℕ) (qs : List Sample) → Falling qs → (due_of at (reverse qs) ≡ reverse (older at qs)) × (left_by at (reverse qs) ≡ reverse (newer at qs))
unfolding AllDue
split_due at [] falls = (refl, refl)
split_due at (q ∷ qs) falls =
    elim (is_due at q) as (λ b. is_due at q ≡ b → (due_of at (reverse (q ∷ qs)) ≡ reverse (if b then q ∷ qs else older at qs)) × (left_by at (reverse (q ∷ qs)) ≡ reverse (if b then [] else q ∷ newer at qs))) [
      | true ↦ λ e.
          let all : AllDue at (reverse (q ∷ qs)) = due_reversed at (q ∷ qs) (e, below_due at q.moment qs e falls.0) in
          let count : count_due at (reverse (q ∷ qs)) ≡ length (reverse (q ∷ qs)) = count_all at (reverse (q ∷ qs)) all in
          (ap (λ n. take n (reverse (q ∷ qs))) count ∙ take_all (reverse (q ∷ qs)), ap (λ n. drop n (reverse (q ∷ qs))) count ∙ drop_all (reverse (q ∷ qs)))
      | false ↦ λ e.
          let rest = split_due at qs falls.1 in
          let xs : List Sample = reverse qs in
          let few : count_due at xs ≤ length xs = count_few at xs in (
            ap (due_of at) (reverse_with q qs) ∙ ap (λ n. take n (xs ++ q ∷ [])) (count_last at xs q e) ∙ take-append-le (count_due at xs) xs (q ∷ []) few ∙ rest.0,
            ap (left_by at) (reverse_with q qs) ∙ ap (λ n. drop n (xs ++ q ∷ [])) (count_last at xs q e) ∙ drop-append-le (count_due at xs) xs (q ∷ []) few
                ∙ ap (λ ys. ys ++ q ∷ []) rest.1 ∙ sym (reverse_with q (newer at qs)),
          )
    ] refl
