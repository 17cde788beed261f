-- The first newline, as a search finds it.
use Rattle.std.proofs.Common.{◌≡◌, ℕ, ◌==◌, not, List, length, get_or, sym, refl, Bool, true, false, arith}
use Rattle.std.specs.List.{prefix_len}
use Rattle.std.proofs.lemmas.List.Sums.{prefix_len_is}
use Rattle.memchr.specs.Find.{NoneBefore, Nowhere, Passes, is_byte}

not_there : (b : Bool) → (b ≡ true → ⊥) → not b ≡ true
not_there true h = absurd (h refl)
not_there false h = refl

is_there : (b : Bool) → b ≡ true → not b ≡ false
is_there true h = refl
is_there false h = sym h

pub before_newline : (bs : List ℕ) (k : ℕ) → NoneBefore (Passes (is_byte 10) bs) 0 (length bs) k × Passes (is_byte 10) bs k → k ≡ prefix_len (λ b. not (b == 10)) bs
before_newline bs k h =
    sym (prefix_len_is (λ b. not (b == 10)) bs k 0 (omega (arith, h.0.high))
    (λ j below. not_there (get_or bs j 0 == 10) (h.0.before j (omega arith) below))
    (λ within. is_there (get_or bs k 0 == 10) h.1))

pub no_newline : (bs : List ℕ) → Nowhere (Passes (is_byte 10) bs) 0 (length bs) → length bs ≡ prefix_len (λ b. not (b == 10)) bs
no_newline bs h =
    sym (prefix_len_is (λ b. not (b == 10)) bs (length bs) 0 (omega arith)
    (λ j below. not_there (get_or bs j 0 == 10) (h j (omega arith) below))
    (λ within. absurd (omega arith)))
