-- How the best choice is found: from the last slot to the first, for each number of new contacts that are left.
use Rattle.std.specs.Prelude.{◌≡◌, ℕ, ◌+◌, ◌-◌, ◌<◌, Bool, true, false, not, ◌&&◌, ◌||◌, nat_eq, nat_lt, nat_le, List, [], ◌∷◌, length, drop, get_or, is_some, if◌then◌else◌}
use Rattle.bits32.specs.Set.{is_in}
use Rattle.touch_writer.specs.declared.place.Place.{Place}
use Rattle.touch_writer.specs.declared.want.Want.{Want}
use Rattle.touch_writer.specs.declared.table.Best.{Best}
use Rattle.touch_writer.specs.Places.{kept}
use Rattle.touch_writer.specs.Packet.{changes, in_slot}
use Rattle.touch_writer.specs.Choice.{remains, arrives}

-- how many events a slot has
abbrev pub cost : ℕ → ℕ → Place → Place → ℕ
cost current s p q = length (if nat_eq s current then changes p q else in_slot s (changes p q))

-- how many slots hold no kept contact
abbrev pub free : List Want → List Place → ℕ
free want [] = 0
free want (p ∷ ps) = (if is_some (kept want p) then 0 else 1) + free want ps

-- whether the first remaining new contact comes into slot `s`: it may, and either it must, or the packet then has no
-- more events than if it comes into a later slot
abbrev pub comes : List Want → Place → ℕ → ℕ → ℕ → ℕ → Bool
comes want p left room here later = not (is_some (kept want p)) && (nat_lt room left || nat_le here later)

-- the fewest events of the slots from `s` on
abbrev pub fewest : List Want → ℕ → ℕ → List Place → List Want → ℕ → ℕ
fewest want current s [] ns next = 0
fewest want current s (p ∷ ps) [] next = cost current s p (remains want p) + fewest want current (s + 1) ps [] next
fewest want current s (p ∷ ps) (n ∷ ns) next =
    let here = cost current s p (arrives n next) + fewest want current (s + 1) ps ns (next + 1) in
    let later = cost current s p (remains want p) + fewest want current (s + 1) ps (n ∷ ns) next in
    if comes want p (length (n ∷ ns)) (free want ps) here later then here else later

-- the choice of slots from `s` on that has them
abbrev pub best : List Want → ℕ → ℕ → List Place → List Want → ℕ → List Bool
best want current s [] ns next = []
best want current s (p ∷ ps) [] next = false ∷ best want current (s + 1) ps [] next
best want current s (p ∷ ps) (n ∷ ns) next =
    let here = cost current s p (arrives n next) + fewest want current (s + 1) ps ns (next + 1) in
    let later = cost current s p (remains want p) + fewest want current (s + 1) ps (n ∷ ns) next in
    if comes want p (length (n ∷ ns)) (free want ps) here later
    then true ∷ best want current (s + 1) ps ns (next + 1)
    else false ∷ best want current (s + 1) ps (n ∷ ns) next

-- the choice that a set of slots is, for the slots from `s` on
abbrev pub chosen : ℕ → ℕ → List Place → List Bool
chosen set s [] = []
chosen set s (p ∷ ps) = is_in s set ∷ chosen set (s + 1) ps

-- an entry is the best choice of the slots from `s` on
pub record IsBest (e : Best) (want : List Want) (current s : ℕ) (ps : List Place) (ns : List Want) (next : ℕ) : Type 0 where
  pub events : e.events ≡ fewest want current s ps ns next
  pub slots : chosen e.slots s ps ≡ best want current s ps ns next
  pub above : (k : ℕ) → k < s → is_in k e.slots ≡ false

-- the content of a row that is not filled yet
abbrev pub blank : Best
blank = record { events = 0; slots = 0 }

-- a row has the best choices if the last 0, 1, 2 and so on of the new contacts remain
abbrev pub IsRow : List Best → List Want → ℕ → ℕ → List Place → List Want → ℕ → ℕ → Type 0
IsRow row want current s ps ns next upto =
    (left : ℕ) → left < upto → IsBest (get_or row left blank) want current s ps (drop (length ns - left) ns) (next + (length ns - left))
