-- One more element of a list, seen from its newest end and from its front.
use Rattle.std.specs.Prelude.{◌≡◌, ℕ, suc, ◌+◌, ◌<◌, List, ◌∷◌, ◌++◌, reverse, length, take, drop, get_or, []}
use Rattle.std.proofs.Common.{sym, ◌∙◌, ap, take-suc, drop-cons, add-one}
use Rattle.std.proofs.lemmas.List.{reverse-append}

pub next_of_take : {X : Type 0} (xs : List X) (i : ℕ) (x : X) → i < length xs → x ≡ get_or xs i x → take (i + 1) xs ≡ take i xs ++ x ∷ []
next_of_take xs i x within is = ap (λ n. take n xs) (add-one i) ∙ take-suc xs i x within ∙ ap (λ y. take i xs ++ y ∷ []) (sym is)

pub newest_of_take : {X : Type 0} (xs : List X) (i : ℕ) (x : X) → i < length xs → x ≡ get_or xs i x → reverse (take (i + 1) xs) ≡ x ∷ reverse (take i xs)
newest_of_take xs i x within is = ap reverse (next_of_take xs i x within is) ∙ reverse-append (take i xs) (x ∷ [])

-- what is left, with the element that is next
pub left_with_next : {X : Type 0} (xs : List X) (i : ℕ) (x : X) → i < length xs → x ≡ get_or xs i x → drop i xs ≡ x ∷ drop (i + 1) xs
left_with_next xs i x within is =
    drop-cons xs i x within ∙ ap (λ y. y ∷ drop (suc i) xs) (sym is) ∙ ap (λ n. x ∷ drop n xs) (sym (add-one i))
