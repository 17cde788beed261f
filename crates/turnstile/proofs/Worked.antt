-- Worked examples: seat 0 adds 5 and 2, seat 1 is split off and adds 1, and is joined into seat 0.
use Rattle.std.proofs.Common.{◌≡◌, ℕ, List, [], ◌∷◌, map, refl, true, false}
use Rattle.std.specs.Prelude.{Some, None}
use Rattle.turnstile.specs.History.{Entry, calls_by, of_zero}
use Rattle.turnstile.specs.Views.{newcomer, placed, next_seat, split_off, together, looked}
use Rattle.turnstile.specs.Rule.{turn_of, nobody, seat}
use Rattle.turnstile.specs.Answers.{has, made_by_zero}
use Rattle.turnstile.specs.declared.view.View.{View}

abbrev two : List (Entry ℕ ℕ)
two = (0, 2, 7) ∷ (0, 5, 5) ∷ []

abbrev three : List (Entry ℕ ℕ)
three = (1, 1, 8) ∷ two

of_seat_0 : calls_by 0 three ≡ (1, 2, 7) ∷ (0, 5, 5) ∷ []
of_seat_0 = refl

of_seat_1 : calls_by 1 three ≡ (2, 1, 8) ∷ []
of_seat_1 = refl

of_nobody : calls_by 2 three ≡ []
of_nobody = refl

-- seat 0 after its two calls
abbrev zero_then : View ℕ ℕ ℕ
zero_then = placed ((0, 5, 5) ∷ []) 2 7 (placed [] 5 5 (newcomer (Some 0) 0 0 []))

own_calls : zero_then.mine.own ≡ (1, 2, 7) ∷ (0, 5, 5) ∷ []
own_calls = refl

counted : (zero_then.seen ≡ 2) × (zero_then.hits ≡ 2) × (zero_then.misses ≡ 0) × (zero_then.known ≡ two)
counted = (refl, refl, refl, refl)

-- while it is alone, the history is its own calls
alone_then : of_zero zero_then.mine.own ≡ two
alone_then = refl

-- seat 1, before and after its call
abbrev one_new : View ℕ ℕ ℕ
one_new = next_seat zero_then

numbered : (one_new.mine.number ≡ 1) × (one_new.seen ≡ 2) × (one_new.mine.own ≡ []) × (one_new.setup ≡ Some 0)
numbered = (refl, refl, refl, refl)

abbrev one_then : View ℕ ℕ ℕ
one_then = placed two 1 8 one_new

-- seat 0 at the end, with seat 1 joined into it
abbrev zero_end : View ℕ ℕ ℕ
zero_end = together (split_off zero_then) one_then

joined_then : (zero_end.seen ≡ 3) × (zero_end.known ≡ three) × (map (λ r. r.own) zero_end.joined ≡ ((2, 1, 8) ∷ []) ∷ [])
joined_then = (refl, refl, refl)

-- its records are those of all numbers
all_there : (made_by_zero (zero_end.mine ∷ zero_end.joined) ≡ 1) × (has 1 (zero_end.mine ∷ zero_end.joined) ≡ true) × (has 2 (zero_end.mine ∷ zero_end.joined) ≡ false)
all_there = (refl, refl, refl)

-- a look returns the length, and changes what the seat has seen
looked_then : let v = looked three zero_then in (v.seen ≡ 3) × (v.last ≡ 3) × (v.looks ≡ 1) × (v.mine ≡ zero_then.mine)
looked_then = (refl, refl, refl, refl)

-- only the seat with the turn knows the whole history through it
turns : (turn_of nobody 0 two ≡ None) × (turn_of (seat 1) 1 two ≡ Some two) × (turn_of (seat 1) 0 two ≡ None)
turns = (refl, refl, refl)
