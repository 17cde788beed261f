-- Six digits and the second bracket, written as usual.
use Rattle.std.proofs.Common.{◌≡◌, ℕ, ◌+◌, ◌*◌, List, [], ◌∷◌, length, Some, refl, ◌∙◌, arith}
use Rattle.std.specs.Prelude.{slice_index}
use Rattle.std.specs.Char.{is_digit}
use Rattle.std.proofs.lemmas.List.Folds.{list_all-append}
use Rattle.raw_events.specs.Text.{number, number_at}
use Rattle.raw_events.specs.Front.{MicrosSay}
use Rattle.raw_events.proofs.Fields.{number_is, number_some}
use Rattle.raw_events.proofs.Heads.{number_more}

-- six digits, from three and three
six : (a b c d e f high low : ℕ) → number 10 (a ∷ b ∷ c ∷ []) ≡ Some high → number 10 (d ∷ e ∷ f ∷ []) ≡ Some low → number 10 (a ∷ b ∷ c ∷ d ∷ e ∷ f ∷ []) ≡ Some (high * 1000 + low)
six a b c d e f high low p q =
    let s = number_some 10 (a ∷ b ∷ c ∷ []) high p in
    let t = number_some 10 (d ∷ e ∷ f ∷ []) low q in
    number_is 10 (a ∷ b ∷ c ∷ d ∷ e ∷ f ∷ []) (high * 1000 + low)
    (list_all-append (λ x. is_digit x 10) (a ∷ b ∷ c ∷ []) (d ∷ e ∷ f ∷ []) ∙ (rw (s.0, t.0) refl))
    (omega (arith, s.1, t.1))

six_at : (a b c d e f g high low : ℕ) → number 10 (a ∷ b ∷ c ∷ []) ≡ Some high → number 10 (d ∷ e ∷ f ∷ []) ≡ Some low
    → number_at 10 6 (a ∷ b ∷ c ∷ d ∷ e ∷ f ∷ g ∷ []) ≡ Some (high * 1000 + low, g ∷ [])
unfolding number_at
six_at a b c d e f g high low p q = rw (six a b c d e f high low p q) refl

pub micros_say : (xs : List ℕ) (high low : ℕ) → length xs ≡ 7 → slice_index xs 6 ≡ 93 → number 10 (slice_index xs 0 ∷ slice_index xs 1 ∷ slice_index xs 2 ∷ []) ≡ Some high
    → number 10 (slice_index xs 3 ∷ slice_index xs 4 ∷ slice_index xs 5 ∷ []) ≡ Some low → MicrosSay xs (high * 1000 + low)
micros_say (a ∷ b ∷ c ∷ d ∷ e ∷ f ∷ g ∷ []) high low len bracket p q = λ seconds rest.
    rw (number_more 10 6 (a ∷ b ∷ c ∷ d ∷ e ∷ f ∷ g ∷ []) rest (high * 1000 + low, g ∷ []) (six_at a b c d e f g high low p q), bracket) refl
micros_say xs high low len bracket p q = absurd (omega (arith, len))
