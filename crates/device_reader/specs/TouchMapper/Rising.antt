-- Lists of pointers whose ids rise.
use Rattle.std.specs.Prelude.{ℕ, ◌<◌, List, [], ◌∷◌}
use Rattle.input_types.specs.declared.pointer.Pointer.{Pointer}

-- each id of the list is above `n`
abbrev pub IsAbove : ℕ → List Pointer → Type 0
IsAbove n [] = Unit {0}
IsAbove n (p ∷ ps) = (n < p.id) × IsAbove n ps

-- each id is below all that follow
abbrev pub Rises : List Pointer → Type 0
Rises [] = Unit {0}
Rises (p ∷ ps) = IsAbove p.id ps × Rises ps
