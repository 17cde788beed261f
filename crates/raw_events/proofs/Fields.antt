-- Type, code and value, written as usual.
use Rattle.std.proofs.Common.{◌≡◌, ℕ, ◌+◌, ◌*◌, ◌==◌, cond, List, [], ◌∷◌, length, Some, None, refl, sym, ◌∙◌, arith, true, false, eqb-true, inl, inr}
use Rattle.std.specs.Prelude.{slice_index}
use Rattle.std.specs.Char.{is_digit}
use Rattle.std.specs.Int.{cast_signed, w32}
use Rattle.std.specs.List.{list_all}
use Rattle.std.specs.Str.Parse.{digits_value}
use Rattle.std.proofs.lemmas.Bool.{and_parts, or_cases}
use Rattle.std.proofs.lemmas.List.Folds.{list_all-append}
use Rattle.raw_events.specs.Text.{number, number_at}
use Rattle.text_lines.specs.Blanks.{is_blank}
use Rattle.raw_events.specs.Line.{fields_of}
use Rattle.raw_events.specs.Front.{plain}

pub number_some : (base : ℕ) (digits : List ℕ) (n : ℕ) → number base digits ≡ Some n → (list_all (λ b. is_digit b base) digits ≡ true) × (digits_value base digits ≡ n)
number_some base digits n h =
    (elim (list_all (λ b. is_digit b base) digits) as (λ v. cond v (Some (digits_value base digits)) None ≡ Some n → (v ≡ true) × (digits_value base digits ≡ n))
    [ true ↦ λ k. (refl, cc) | false ↦ λ k. cc ]) h

pub number_is : (base : ℕ) (digits : List ℕ) (n : ℕ) → list_all (λ b. is_digit b base) digits ≡ true → digits_value base digits ≡ n → number base digits ≡ Some n
number_is base digits n h k = rw (h, k) refl

-- eight digits, from four and four
eight : (a b c d e f g h high low : ℕ) → number 16 (a ∷ b ∷ c ∷ d ∷ []) ≡ Some high → number 16 (e ∷ f ∷ g ∷ h ∷ []) ≡ Some low
    → number 16 (a ∷ b ∷ c ∷ d ∷ e ∷ f ∷ g ∷ h ∷ []) ≡ Some (high * 65536 + low)
eight a b c d e f g h high low p q =
    let s = number_some 16 (a ∷ b ∷ c ∷ d ∷ []) high p in
    let t = number_some 16 (e ∷ f ∷ g ∷ h ∷ []) low q in
    number_is 16 (a ∷ b ∷ c ∷ d ∷ e ∷ f ∷ g ∷ h ∷ []) (high * 65536 + low)
    (list_all-append (λ x. is_digit x 16) (a ∷ b ∷ c ∷ d ∷ []) (e ∷ f ∷ g ∷ h ∷ []) ∙ (rw (s.0, t.0) refl))
    (omega (arith, s.1, t.1))

digit_plain : (x : ℕ) → is_digit x 16 ≡ true → is_blank x ≡ false
digit_plain x h =
    (elim (is_blank x) as (λ v. is_blank x ≡ v → v ≡ false) [
      | false ↦ λ e. refl
      | true ↦ λ e. elim (or_cases (x == 32) (x == 9) e) as (λ _. true ≡ false) [
        | inl s ↦ let is : x ≡ 32 = eqb-true x 32 s in let k : is_digit 32 16 ≡ true = rw is at h in sym k
        | inr t ↦ let is : x ≡ 9 = eqb-true x 9 t in let k : is_digit 9 16 ≡ true = rw is at h in sym k
      ]
    ]) refl

first_plain : (x n : ℕ) (xs : List ℕ) → number 16 (x ∷ xs) ≡ Some n → is_blank x ≡ false
first_plain x n xs h = digit_plain x (and_parts (is_digit x 16) (list_all (λ b. is_digit b 16) xs) (number_some 16 (x ∷ xs) n h).0).0

pub usual_says : (xs : List ℕ) (kind code high low : ℕ) → length xs ≡ 18 → slice_index xs 4 ≡ 32 → slice_index xs 9 ≡ 32
    → number 16 (slice_index xs 0 ∷ slice_index xs 1 ∷ slice_index xs 2 ∷ slice_index xs 3 ∷ []) ≡ Some kind
    → number 16 (slice_index xs 5 ∷ slice_index xs 6 ∷ slice_index xs 7 ∷ slice_index xs 8 ∷ []) ≡ Some code
    → number 16 (slice_index xs 10 ∷ slice_index xs 11 ∷ slice_index xs 12 ∷ slice_index xs 13 ∷ []) ≡ Some high
    → number 16 (slice_index xs 14 ∷ slice_index xs 15 ∷ slice_index xs 16 ∷ slice_index xs 17 ∷ []) ≡ Some low
    → fields_of xs ≡ Some (record { kind = kind; code = code; value = cast_signed w32 (high * 65536 + low) })
unfolding fields_of number_at
usual_says (a ∷ b ∷ c ∷ d ∷ x ∷ e ∷ f ∷ g ∷ h ∷ y ∷ i ∷ j ∷ k ∷ l ∷ m ∷ n ∷ o ∷ p ∷ []) kind code high low len s t u v w z =
    rw (u, s, first_plain e code (f ∷ g ∷ h ∷ []) v, v, t, first_plain i high (j ∷ k ∷ l ∷ []) w, eight i j k l m n o p high low w z) refl
usual_says xs kind code high low len s t u v w z = absurd (omega (arith, len))

pub usual_plain : (xs : List ℕ) (kind : ℕ) → length xs ≡ 18 → number 16 (slice_index xs 0 ∷ slice_index xs 1 ∷ slice_index xs 2 ∷ slice_index xs 3 ∷ []) ≡ Some kind → plain xs ≡ true
usual_plain [] kind len u = refl
usual_plain (x ∷ xs) kind len u = rw (first_plain x kind (slice_index (x ∷ xs) 1 ∷ slice_index (x ∷ xs) 2 ∷ slice_index (x ∷ xs) 3 ∷ []) u) refl
