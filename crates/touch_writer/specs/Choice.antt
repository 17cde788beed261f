-- Which slots new contacts come into.
use Rattle.std.specs.Prelude.{◌≡◌, ℕ, ◌+◌, ◌<◌, ◌⊎◌, Bool, true, false, pos, List, [], ◌∷◌, Option, Some, None}
use Rattle.touch_writer.specs.declared.place.Place.{Place}
use Rattle.touch_writer.specs.declared.want.Want.{Want}
use Rattle.touch_writer.specs.Places.{kept}

-- A choice says for each slot whether a new contact comes into it: into none that holds a kept contact, and into as
-- many as there are new contacts.
abbrev pub IsChoice : List Want → List Place → List Want → List Bool → Type 0
IsChoice want [] [] [] = Unit {0}
IsChoice want [] [] (c ∷ cs) = ⊥
IsChoice want [] (n ∷ ns) cs = ⊥
IsChoice want (p ∷ ps) ns [] = ⊥
IsChoice want (p ∷ ps) ns (false ∷ cs) = IsChoice want ps ns cs
IsChoice want (p ∷ ps) [] (true ∷ cs) = ⊥
IsChoice want (p ∷ ps) (n ∷ ns) (true ∷ cs) = (kept want p ≡ None) × IsChoice want ps ns cs

-- the slots from `s` on that new contacts come into
abbrev pub slots_of : ℕ → List Bool → List ℕ
slots_of s [] = []
slots_of s (true ∷ cs) = s ∷ slots_of (s + 1) cs
slots_of s (false ∷ cs) = slots_of (s + 1) cs

-- the order of lists: the first number that differs decides
abbrev pub IsNotAfter : List ℕ → List ℕ → Type 0
IsNotAfter [] ys = Unit {0}
IsNotAfter (x ∷ xs) [] = ⊥
IsNotAfter (x ∷ xs) (y ∷ ys) = (x < y) ⊎ ((x ≡ y) × IsNotAfter xs ys)

-- a slot that keeps its contact has it at the wanted position, and one whose contact is not wanted holds none
abbrev pub stays : Place → Option Want → Place
stays p None = record { x = p.x; y = p.y; holds = None }
stays p (Some w) = record { x = w.x; y = w.y; holds = p.holds }

-- a slot that no new contact comes into: its contact is at its new position, or is gone
abbrev pub remains : List Want → Place → Place
remains want p = stays p (kept want p)

-- a slot that a new contact comes into
abbrev pub arrives : Want → ℕ → Place
arrives n tracking = record { x = n.x; y = n.y; holds = Some (record { id = n.id; tracking = pos tracking }) }

-- what the slots hold after a choice: the new contacts come in rising id, and get the tracking ids from `next` on
abbrev pub placed : List Want → List Place → List Bool → List Want → ℕ → List Place
placed want [] cs ns next = []
placed want (p ∷ ps) [] ns next = remains want p ∷ placed want ps [] ns next
placed want (p ∷ ps) (false ∷ cs) ns next = remains want p ∷ placed want ps cs ns next
placed want (p ∷ ps) (true ∷ cs) [] next = remains want p ∷ placed want ps cs [] next
placed want (p ∷ ps) (true ∷ cs) (n ∷ ns) next = arrives n next ∷ placed want ps cs ns (next + 1)
