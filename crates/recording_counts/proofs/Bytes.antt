-- The first place of a byte, as a search finds it.
use Rattle.std.proofs.Common.{◌≡◌, ℕ, ◌==◌, not, List, length, get_or, sym, refl, Bool, true, false, arith}
use Rattle.std.specs.List.{prefix_len}
use Rattle.std.proofs.lemmas.List.Sums.{prefix_len_is}
use Rattle.memchr.specs.Find.{NoneBefore, Nowhere, Passes, is_byte}

other_byte : (t : Bool) → (t ≡ true → ⊥) → not t ≡ true
other_byte true h = absurd (h refl)
other_byte false h = refl

that_byte : (t : Bool) → t ≡ true → not t ≡ false
that_byte true h = refl
that_byte false h = sym h

pub first_place : (c : ℕ) (bs : List ℕ) (k : ℕ) → NoneBefore (Passes (is_byte c) bs) 0 (length bs) k × Passes (is_byte c) bs k → k ≡ prefix_len (λ b. not (b == c)) bs
first_place c bs k h =
    sym (prefix_len_is (λ b. not (b == c)) bs k 0 (omega (arith, h.0.high))
    (λ j below. other_byte (get_or bs j 0 == c) (h.0.before j (omega arith) below))
    (λ within. that_byte (get_or bs k 0 == c) h.1))

pub no_place : (c : ℕ) (bs : List ℕ) → Nowhere (Passes (is_byte c) bs) 0 (length bs) → length bs ≡ prefix_len (λ b. not (b == c)) bs
no_place c bs h =
    sym (prefix_len_is (λ b. not (b == c)) bs (length bs) 0 (omega arith)
    (λ j below. other_byte (get_or bs j 0 == c) (h j (omega arith) below))
    (λ within. absurd (omega arith)))
