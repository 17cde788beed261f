-- The elements of an array, as a list and one by one.
use Rattle.std.proofs.Common.{◌≡◌, ℕ, suc, ◌+◌, ◌<◌, List, [], ◌∷◌, ◌++◌, map, length, drop, get_or, Result, refl, sym, ◌∙◌, ap, drop-cons, add-one}
use Rattle.toml.specs.Data.{Data}
use Rattle.toml.specs.View.{items_of, view}
use Rattle.toml.specs.declared.value.Value.{Value}
use Rattle.session_plan.specs.Fault.{Fault, ◌>>=◌}
use Rattle.session_plan.specs.Reading.{each, list_of}

pub list_of_items : (ds : List Data) → list_of (items_of ds) ≡ ds
list_of_items [] = refl
list_of_items (d ∷ ds) = ap (λ xs. d ∷ xs) (list_of_items ds)

-- what is left, with the element that is next
pub left_with_next : {X : Type 0} (vs : List X) (i : ℕ) (v : X) → i < length vs → v ≡ get_or vs i v → drop i vs ≡ v ∷ drop (i + 1) vs
left_with_next vs i v within is =
    drop-cons vs i v within ∙ ap (λ x. x ∷ drop (suc i) vs) (sym is) ∙ ap (λ n. v ∷ drop n vs) (sym (add-one i))

-- the entries that are left are read from the next one on
pub each_next : {A : Type 0} (read : ℕ → List A → Data → Result A Fault) (k : ℕ) (found : List A) (vs : List Value) (i : ℕ) (v : Value)
    → i < length vs → v ≡ get_or vs i v
    → each read k found (map view (drop i vs)) ≡ (read k found (view v) >>= λ x. each read (k + 1) (found ++ x ∷ []) (map view (drop (i + 1) vs)))
each_next read k found vs i v within is = rw (left_with_next vs i v within is) refl
