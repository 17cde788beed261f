-- Parts of a text.
use Rattle.std.specs.Prelude.{ℕ, List, [], ◌∷◌, ◌++◌}

-- the parts, one after the other
abbrev pub together : List (List ℕ) → List ℕ
together [] = []
together (p ∷ ps) = p ++ together ps
