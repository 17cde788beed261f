-- The messages that are published and not finished.
use Rattle.std.specs.Prelude.{ℕ, zero, suc, ◌+◌, ◌<◌, ◌≤◌, Bool, not, ◌==◌, List, [], ◌∷◌, ◌++◌, filter}
use Rattle.std.specs.List.{list_any}
use Rattle.dispatcher.specs.declared.input_channel.unfinished.Unfinished.{Unfinished}

-- the next messages after a number, all delivered at one clock
abbrev pub delivered : ℕ → ℕ → ℕ → List Unfinished
delivered clock from zero = []
delivered clock from (suc n) = delivered clock from n ++ record { seq = from + suc n; delivery = clock } ∷ []

-- a message with this number is among them
abbrev pub has_seq : ℕ → List Unfinished → Bool
has_seq seq us = list_any (λ u. u.seq == seq) us

-- the others
abbrev pub without : ℕ → List Unfinished → List Unfinished
without seq us = filter (λ u. not (u.seq == seq)) us

-- none was delivered after this clock
abbrev pub NoneAfter : ℕ → List Unfinished → Type 0
NoneAfter clock [] = Unit {0}
NoneAfter clock (u ∷ us) = (u.delivery ≤ clock) × NoneAfter clock us

-- all have numbers from 1 to this
abbrev pub Within : ℕ → List Unfinished → Type 0
Within n [] = Unit {0}
Within n (u ∷ us) = (1 ≤ u.seq) × (u.seq ≤ n) × Within n us

-- all come after a message: their numbers are greater, and they were not delivered earlier
abbrev pub Follow : Unfinished → List Unfinished → Type 0
Follow u [] = Unit {0}
Follow u (v ∷ vs) = (u.seq < v.seq) × (u.delivery ≤ v.delivery) × Follow u vs

-- each comes before those behind it
abbrev pub IsInOrder : List Unfinished → Type 0
IsInOrder [] = Unit {0}
IsInOrder (u ∷ us) = Follow u us × IsInOrder us
