-- Pieces joined to one text.
use Rattle.std.specs.Prelude.{ℕ, List, [], ◌∷◌, ◌++◌}
use Rattle.std.specs.declared.alloc.Global.{Global}
use Rattle.std.specs.declared.vec.Vec.{Vec}

-- the bytes of the pieces, one after the other
abbrev pub joined : List (Vec ℕ Global) → List ℕ
joined [] = []
joined (p ∷ ps) = p.items ++ joined ps
