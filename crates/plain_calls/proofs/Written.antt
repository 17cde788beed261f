-- Values that are written to the places at the front of a list, one after another.
use Rattle.std.proofs.Common.{◌≡◌, ℕ, zero, suc, ◌+◌, ◌<◌, ◌≤◌, List, [], ◌∷◌, ◌++◌, map, take, drop, set, length, slice_index_or, refl, ap, arith}

written_suc : {A B : Type 0} (f : A → B) (ks : List A) (xs : List B) (i : ℕ) (d : A) → i < length ks → length ks ≤ length xs
    → set (map f (take i ks) ++ drop i xs) i (f (slice_index_or ks i d)) ≡ map f (take (suc i) ks) ++ drop (suc i) xs
written_suc f [] xs i d l r = absurd (omega arith)
written_suc f (k ∷ ks) [] i d l r = absurd (omega arith)
written_suc f (k ∷ ks) (x ∷ xs) zero d l r = refl
written_suc f (k ∷ ks) (x ∷ xs) (suc i) d l r = ap (λ ys. f k ∷ ys) (written_suc f ks xs i d (omega arith) (omega arith))

-- the next value goes to the next place
pub written_more : {A B : Type 0} (f : A → B) (ks : List A) (xs : List B) (i : ℕ) (d : A) → i < length ks → length ks ≤ length xs
    → set (map f (take i ks) ++ drop i xs) i (f (slice_index_or ks i d)) ≡ map f (take (i + 1) ks) ++ drop (i + 1) xs
written_more f ks xs i d l r =
    let next : i + 1 ≡ suc i = omega arith in rw next (written_suc f ks xs i d l r)

next_suc : {A : Type 0} (ks xs : List A) (i : ℕ) (d : A) → i < length ks → length ks ≤ length xs
    → set (take i ks ++ drop i xs) i (slice_index_or ks i d) ≡ take (suc i) ks ++ drop (suc i) xs
next_suc [] xs i d l r = absurd (omega arith)
next_suc (k ∷ ks) [] i d l r = absurd (omega arith)
next_suc (k ∷ ks) (x ∷ xs) zero d l r = refl
next_suc (k ∷ ks) (x ∷ xs) (suc i) d l r = ap (λ ys. k ∷ ys) (next_suc ks xs i d (omega arith) (omega arith))

-- the next one of a list goes to its place
pub copied_more : {A : Type 0} (ks xs : List A) (i : ℕ) (d : A) → i < length ks → length ks ≤ length xs
    → set (take i ks ++ drop i xs) i (slice_index_or ks i d) ≡ take (i + 1) ks ++ drop (i + 1) xs
copied_more ks xs i d l r =
    let next : i + 1 ≡ suc i = omega arith in rw next (next_suc ks xs i d l r)
