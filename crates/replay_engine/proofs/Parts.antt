-- The parts of a line, put together.
use Rattle.std.proofs.Common.{◌≡◌, ◌∙◌, ◌++◌, ℕ, List, [], ◌∷◌, sym, ap, append_assoc, append-nil}
use Rattle.text_output.specs.Together.{together}

-- some parts and a last one, as a line is written out
abbrev pub onto : List (List ℕ) → List ℕ → List ℕ
onto [] x = x
onto (p ∷ ps) x = p ++ onto ps x

-- with the end of the line behind them
pub line_of_parts : (ps : List (List ℕ)) (x e : List ℕ) → onto ps (x ++ (e ++ [])) ≡ onto ps x ++ e
line_of_parts [] x e = ap (λ (xs : List ℕ). x ++ xs) (append-nil e)
line_of_parts (p ∷ ps) x e = ap (λ (xs : List ℕ). p ++ xs) (line_of_parts ps x e) ∙ sym (append_assoc p (onto ps x) e)
