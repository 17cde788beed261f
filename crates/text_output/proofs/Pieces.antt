-- The pieces of a text, one after another.
use Rattle.std.proofs.Common.{◌≡◌, ◌∙◌, ◌<◌, ◌+◌, ℕ, suc, List, [], ◌∷◌, ◌++◌, length, map, get_or, drop, refl, sym, ap, append_assoc, add-one, drop-cons}
use Rattle.std.specs.declared.alloc.Global.{Global}
use Rattle.std.specs.declared.vec.Vec.{Vec}
use Rattle.std.specs.Borrow.{Bor}
use Rattle.text_pieces.specs.Joined.{joined}
use Rattle.text_output.specs.Together.{together}

-- what is left of a list, with the element that is next
next_of_drop : {X : Type 0} (xs : List X) (i : ℕ) (x : X) → i < length xs → x ≡ get_or xs i x → drop i xs ≡ x ∷ drop (i + 1) xs
next_of_drop xs i x within is = drop-cons xs i x within ∙ ap (λ y. y ∷ drop (suc i) xs) (sym is) ∙ ap (λ n. x ∷ drop n xs) (sym (add-one i))

pub drop_none : {X : Type 0} (xs : List X) → xs ≡ drop 0 xs
drop_none [] = refl
drop_none (x ∷ xs) = refl

-- the next piece, and the others, with the last one behind them
pub pieces_left : (ps : List (Vec ℕ Global)) (last : List ℕ) (i : ℕ) (p : Vec ℕ Global) → i < length ps → p ≡ get_or ps i p
    → joined (drop i ps) ++ last ≡ p.items ++ (joined (drop (i + 1) ps) ++ last)
pieces_left ps last i p within is =
    ap (λ qs. joined qs ++ last) (next_of_drop ps i p within is) ∙ append_assoc p.items (joined (drop (i + 1) ps)) last

-- the bytes of each piece
abbrev pub items_of : List (Vec ℕ Global) → List (List ℕ)
items_of ps = map (λ (p : Vec ℕ Global). p.items) ps

-- the next piece, and the others, each by itself
pub items_left : (ps : List (Vec ℕ Global)) (i : ℕ) (p : Vec ℕ Global) → i < length ps → p ≡ get_or ps i p
    → items_of (drop i ps) ≡ p.items ∷ items_of (drop (i + 1) ps)
items_left ps i p within is = ap items_of (next_of_drop ps i p within is)

-- the next part, and the others
abbrev pub parts_of : List (Bor (List ℕ)) → List ℕ
parts_of ps = together (map (λ (p : Bor (List ℕ)). p.now) ps)

pub parts_left : (ps : List (Bor (List ℕ))) (i : ℕ) (d : Bor (List ℕ)) → i < length ps → parts_of (drop i ps) ≡ (get_or ps i d).now ++ parts_of (drop (i + 1) ps)
parts_left ps i d within = ap parts_of (drop-cons ps i d within ∙ ap (λ n. get_or ps i d ∷ drop n ps) (sym (add-one i)))
