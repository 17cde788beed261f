-- What stands before the first that passes, by where that is.
use Rattle.std.proofs.Common.{◌≡◌, ℕ, ◌<◌, Bool, true, false, cond, List, length, take, refl, ap, ◌∙◌, arith, inl, inr}
use Rattle.std.specs.Prelude.{Some, None, is_some}
use Rattle.std.specs.List.{find, position, position_or_len, before_first, slice_get}
use Rattle.std.proofs.lemmas.Bool.{ltb-true, ltb-false}
use Rattle.std.proofs.lemmas.List.Folds.{find_at}
use Rattle.std.proofs.lemmas.Option.{slice_get_cases, slice_get_past}
use Rattle.std.proofs.lemmas.List.{take_all}

some_is : {X : Type 0} (b : Bool) (x y : X) → cond b (Some x) None ≡ Some y → (b ≡ true) × (x ≡ y)
some_is true x y e = (refl, cc)
some_is false x y e = cc

none_is : {X : Type 0} (b : Bool) (x : X) → cond b (Some x) None ≡ None → b ≡ false
none_is true x e = cc
none_is false x e = refl

is_some-slice_get : {X : Type 0} (xs : List X) (i : ℕ) → i < length xs → is_some (slice_get xs i) ≡ true
is_some-slice_get xs i h = elim (slice_get_cases xs i).1 [ inl p ↦ ap is_some p.2 | inr q ↦ absurd (omega arith) ]

-- where the first that passes is at i
pub before_first_at : {X : Type 0} (p : X → Bool) (xs : List X) (i : ℕ) → position p xs ≡ Some i → before_first p xs ≡ take i xs
before_first_at p xs i e = ap (λ n. take n xs) (some_is _ _ _ e).1

pub find_at_place : {X : Type 0} (p : X → Bool) (xs : List X) (i : ℕ) → position p xs ≡ Some i → is_some (find p xs) ≡ true
find_at_place p xs i e =
    ap is_some (find_at p xs) ∙ is_some-slice_get xs (position_or_len p xs) (ltb-true _ _ (some_is _ _ _ e).0)

-- where none passes
pub before_first_none : {X : Type 0} (p : X → Bool) (xs : List X) → position p xs ≡ None → before_first p xs ≡ xs
before_first_none p xs e = take_all (position_or_len p xs) xs (ltb-false _ _ (none_is _ _ e))

pub find_none : {X : Type 0} (p : X → Bool) (xs : List X) → position p xs ≡ None → is_some (find p xs) ≡ false
find_none p xs e =
    ap is_some (find_at p xs ∙ slice_get_past xs (position_or_len p xs) (ltb-false _ _ (none_is _ _ e)))
