-- What a counter answers.
use Rattle.std.specs.Prelude.{◌≡◌, ℕ, ◌+◌, ◌%◌, ◌^◌, List, [], ◌∷◌}
use Rattle.turnstile.specs.History.{Entry}
use Rattle.turnstile.specs.declared.view.View.{View}

-- the total after a history: the reply of its newest entry, or the start
abbrev pub total_after : ℕ → List (Entry ℕ ℕ) → ℕ
total_after start [] = start
total_after start (e ∷ h) = e.2

-- each reply is the total before it and the amount of the call, in 64 bits
abbrev pub IsCounted : ℕ → List (Entry ℕ ℕ) → Type 0
IsCounted start [] = Unit {0}
IsCounted start (e ∷ h) = (e.2 ≡ (total_after start h + e.1) % 2 ^ 64) × IsCounted start h

-- a seat has the number that it had, and has made as many numbers
abbrev pub SameNumbers : {T C R : Type 0} → View T C R → View T C R → Type 0
SameNumbers v w = (w.mine.number ≡ v.mine.number) × (w.mine.made ≡ v.mine.made)
