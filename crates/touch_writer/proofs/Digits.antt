-- Digits, the last one behind the others.
use Rattle.std.specs.Prelude.{◌≡◌, ℕ, zero, suc, ◌-◌, ◌/◌, ◌%◌, ◌<◌, List, [], ◌∷◌, ◌++◌}
use Rattle.std.proofs.Common.{◌∙◌, ap, arith, append_assoc}
use Rattle.std.proofs.lemmas.List.{append-nil}
use Rattle.touch_writer.specs.EventText.{digit, digits}

pub digits_none : (text : List ℕ) (base x places : ℕ) → places ≡ 0 → text ++ digits base places x ≡ text
unfolding digits
digits_none text base x zero h = append-nil text
digits_none text base x (suc n) h = absurd (omega (arith, h))

pub digits_more : (text after all : List ℕ) (base x places last : ℕ) → 0 < places → after ≡ text ++ digits base (places - 1) (x / base) → last ≡ digit (x % base)
    → all ≡ after ++ last ∷ [] → all ≡ text ++ digits base places x
unfolding digits
digits_more text after all base x zero last h front end is = absurd (omega (arith, h))
digits_more text after all base x (suc n) last h front end is =
    let less : suc n - 1 ≡ n = omega arith in
    is ∙ ap (λ d. after ++ d ∷ []) end
    ∙ ap (λ t. t ++ digit (x % base) ∷ []) (front ∙ ap (λ m. text ++ digits base m (x / base)) less)
    ∙ append_assoc text (digits base n (x / base)) (digit (x % base) ∷ [])
