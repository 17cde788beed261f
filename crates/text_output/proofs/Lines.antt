-- A line that is written part by part: some of it is written, and the rest of what was added is held.
use Rattle.std.proofs.Common.{◌≡◌, ◌∙◌, ◌++◌, ℕ, List, [], ◌∷◌, sym, ap, subst, append_assoc, append-nil}
use Rattle.outside_io.specs.Trace.{Writing}
use Rattle.text_output.specs.Passing.{StopsWithin, WritesAll, WritesUpTo}
use Rattle.text_output.specs.Together.{together}
use Rattle.text_output.proofs.Passing.{none_written, stops_more, stops_on, written_more, written_on}

-- a part more was added, and the rest of the line is still to come
pub line_on : (before mid now : Writing) (text held part rest held_now : List ℕ) → WritesUpTo before mid text (held ++ (part ++ rest))
    → WritesUpTo mid now (held ++ part) held_now → WritesUpTo before now text (held_now ++ rest)
line_on before mid now text held part rest held_now p q =
    written_on before mid now text (held ++ (part ++ rest)) (held_now ++ rest) p
    (subst (λ (xs : List ℕ). WritesUpTo mid now xs (held_now ++ rest)) (append_assoc held part rest) (written_more mid now (held ++ part) held_now rest q))

-- a write failed where a part was added
pub line_stops : (before mid now : Writing) (text held part rest : List ℕ) → WritesUpTo before mid text (held ++ (part ++ rest))
    → StopsWithin mid now (held ++ part) → StopsWithin before now text
line_stops before mid now text held part rest p s =
    stops_on before mid now text (held ++ (part ++ rest)) p
    (subst (λ (xs : List ℕ). StopsWithin mid now xs) (append_assoc held part rest) (stops_more mid now (held ++ part) rest s))

-- the part had room
pub line_held : (w : Writing) (held part now : List ℕ) → now ≡ held ++ part → WritesUpTo w w (held ++ part) now
line_held w held part now is = none_written w (held ++ part) now (sym is)

-- the part had none: what was held was written, and then the part
pub line_through : (before mid now : Writing) (held part held_now : List ℕ) → WritesAll before mid held → WritesAll mid now part → held_now ≡ []
    → WritesUpTo before now (held ++ part) held_now
line_through before mid now held part held_now p q none =
    subst (λ (xs : List ℕ). WritesUpTo before now (held ++ part) xs) (sym none)
    (written_on before mid now (held ++ part) part [] (written_more before mid held [] part p) q)

-- a line of two parts, and its end
pub named_line : (a b c : List ℕ) → together (a ∷ b ∷ c ∷ []) ≡ (a ++ b) ++ c
named_line a b c = ap (λ (xs : List ℕ). a ++ (b ++ xs)) (append-nil c) ∙ sym (append_assoc a b c)

-- a line of four parts, and its end
pub pair_line : (a b c d e : List ℕ) → together (a ∷ b ∷ c ∷ d ∷ e ∷ []) ≡ (a ++ (b ++ (c ++ d))) ++ e
pair_line a b c d e =
    ap (λ (xs : List ℕ). a ++ (b ++ (c ++ (d ++ xs)))) (append-nil e)
    ∙ ap (λ (xs : List ℕ). a ++ (b ++ xs)) (sym (append_assoc c d e))
    ∙ ap (λ (xs : List ℕ). a ++ xs) (sym (append_assoc b (c ++ d) e))
    ∙ sym (append_assoc a (b ++ (c ++ d)) e)
