-- What contracts see of the pointers of a packet.
use Rattle.std.specs.Prelude.{ℕ, ◌<◌, pos, List, [], ◌∷◌}
use Rattle.device_reader.specs.declared.pointer_ids.assigned.Held.{Held}

-- the pointers of a packet in rising id, and the set of the ids that are cancelled in it
pub record Assignment : Type 0 where
  pub pointers : List Held
  pub cancelled : ℕ

-- each id is below that of the next pointer
abbrev pub IsRising : List Held → Type 0
IsRising [] = Unit {0}
IsRising (p ∷ []) = Unit {0}
IsRising (p ∷ q ∷ ps) = (p.id < q.id) × IsRising (q ∷ ps)

-- the id is above that of the last pointer of the list
abbrev pub EndsBelow : List Held → ℕ → Type 0
EndsBelow [] n = Unit {0}
EndsBelow (p ∷ []) n = p.id < n
EndsBelow (p ∷ q ∷ ps) n = EndsBelow (q ∷ ps) n

-- what stands in the places of a list that are not in use
abbrev pub unused : Held
unused = record { id = 0; x = pos 0; y = pos 0 }
