-- The events that lead from what slots hold to what they must hold. Codes and values are those of EV_ABS events.
use Rattle.std.specs.Prelude.{ℕ, ◌+◌, Bool, true, false, ◌||◌, nat_eq, ℤ, pos, List, [], ◌∷◌, ◌++◌, map, if◌then◌else◌}
use Rattle.std.specs.Ordering.{int_eq}
use Rattle.raw_events.specs.declared.event.RawEvent.{RawEvent}
use Rattle.touch_writer.specs.declared.place.Place.{Place}
use Rattle.touch_writer.specs.Places.{place_at, tracking}

-- a value is written only if it changes
abbrev pub said : ℕ → ℤ → ℤ → List (ℕ × ℤ)
said code old new = if int_eq old new then [] else (code, new) ∷ []

-- the changes of a slot: its tracking id, then position x, then position y
abbrev pub changes : Place → Place → List (ℕ × ℤ)
changes old new = said 57 (tracking old) (tracking new) ++ said 53 old.x new.x ++ said 54 old.y new.y

-- an ABS_MT_SLOT precedes changes, if there are any
abbrev pub in_slot : ℕ → List (ℕ × ℤ) → List (ℕ × ℤ)
in_slot s [] = []
in_slot s (c ∷ cs) = (47, pos s) ∷ c ∷ cs

-- the changes of the slots from `s` on except the current slot, in rising slot
abbrev pub others : ℕ → ℕ → List Place → List Place → List (ℕ × ℤ)
others current s [] new = []
others current s (p ∷ ps) [] = []
others current s (p ∷ ps) (q ∷ qs) = (if nat_eq s current then [] else in_slot s (changes p q)) ++ others current (s + 1) ps qs

-- an EV_ABS event
abbrev pub abs : ℕ → ℕ → ℕ × ℤ → RawEvent
abs device moment change = record { device = device; moment = moment; kind = 3; code = change.0; value = change.1 }

-- the SYN_REPORT that ends a packet
abbrev pub report : ℕ → ℕ → RawEvent
report device moment = record { device = device; moment = moment; kind = 0; code = 0; value = pos 0 }

-- The packet that leads from what the slots hold to what they must hold: the changes of the current slot without an
-- ABS_MT_SLOT, then those of the others, each after its ABS_MT_SLOT, and a SYN_REPORT.
abbrev pub packet : ℕ → ℕ → ℕ → List Place → List Place → List RawEvent
packet device moment current old new =
    map (λ c. abs device moment c) (changes (place_at current old) (place_at current new) ++ others current 0 old new) ++ report device moment ∷ []

-- there is no change
abbrev pub is_empty : List (ℕ × ℤ) → Bool
is_empty [] = true
is_empty (c ∷ cs) = false

-- the current slot after those from `s` on: the last one that has changes, or `now` if none has
abbrev pub last_slot : ℕ → ℕ → ℕ → List Place → List Place → ℕ
last_slot now current s [] new = now
last_slot now current s (p ∷ ps) [] = now
last_slot now current s (p ∷ ps) (q ∷ qs) =
    last_slot (if nat_eq s current || is_empty (changes p q) then now else s) current (s + 1) ps qs
