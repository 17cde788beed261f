-- Lists of pointers with rising ids, and the table that keeps one.
use Rattle.std.specs.Prelude.{ℕ, ◌<◌, List, [], ◌∷◌, pos}
use Rattle.input_types.specs.declared.pointer.Pointer.{Pointer}

-- each id is below that of the next pointer
abbrev pub IsRising : List Pointer → Type 0
IsRising [] = Unit {0}
IsRising (p ∷ []) = Unit {0}
IsRising (p ∷ q ∷ ps) = (p.id < q.id) × IsRising (q ∷ ps)

-- the id is above that of the last pointer of the list
abbrev pub EndsBelow : List Pointer → ℕ → Type 0
EndsBelow [] n = Unit {0}
EndsBelow (p ∷ []) n = p.id < n
EndsBelow (p ∷ q ∷ ps) n = EndsBelow (q ∷ ps) n

-- the value in the unused places of a list
abbrev pub unused : Pointer
unused = record { id = 0; at = record { x = pos 0; y = pos 0 } }
