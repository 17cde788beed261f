-- Numbers that are written and read.
use Rattle.std.specs.Prelude.{◌≡◌, ℕ, zero, suc, ◌+◌, ◌*◌, ◌/◌, ◌%◌, ◌<◌, ◌≤◌, ◌⊎◌, ◌==◌, true, false, List, [], ◌∷◌, ◌++◌, length, take, drop, replicate, Some}
use Rattle.std.specs.Char.{is_digit, digit_value}
use Rattle.std.specs.List.{list_all, prefix_len}
use Rattle.std.specs.Str.Parse.{AllDigits, digits_value_after, digits_value}
use Rattle.std.proofs.Common.{sym, ◌∙◌, ap, refl, arith, inl, inr, ne_eqb}
use Rattle.std.proofs.lemmas.Bool.{cases_lt, lt-ltb, le-ltb}
use Rattle.std.proofs.lemmas.List.{length-append}
use Rattle.raw_events.specs.Text.{number_at}
use Rattle.text_lines.specs.Blanks.{is_blank, skip_blanks}
use Rattle.raw_events.specs.Line.{seconds_at}
use Rattle.touch_writer.specs.EventText.{digit, digits}

-- ---- one digit

digit_small : (d : ℕ) → d < 10 → digit_value (48 + d) ≡ d
digit_small d lt =
    rw (le-ltb (48 + d) 48 (omega arith), lt-ltb (48 + d) 58 (omega (arith, lt))) (omega arith)

digit_large : (d : ℕ) → 10 ≤ d → d < 16 → digit_value (87 + d) ≡ d
digit_large d le lt =
    rw (
      le-ltb (87 + d) 48 (omega arith),
      le-ltb (87 + d) 58 (omega arith),
      le-ltb (87 + d) 65 (omega arith),
      le-ltb (87 + d) 91 (omega (arith, le)),
      le-ltb (87 + d) 97 (omega (arith, le)),
      lt-ltb (87 + d) 123 (omega (arith, lt)),
    ) (omega arith)

digit_at : (d : ℕ) → d < 16 → (d < 10) ⊎ (10 ≤ d) → digit_value (digit d) ≡ d
digit_at d lt (inl a) = rw (lt-ltb d 10 a) (digit_small d a)
digit_at d lt (inr b) = rw (le-ltb d 10 b) (digit_large d b lt)

pub digit_is : (d : ℕ) → d < 16 → digit_value (digit d) ≡ d
digit_is d lt = digit_at d lt (cases_lt d 10)

-- a byte that is a digit is none that is not
pub digit_other : (b c : ℕ) → digit_value b < 16 → 16 ≤ digit_value c → (b == c) ≡ false
digit_other b c h g = ne_eqb b c (λ e. omega (arith, h, g, ap (λ x. digit_value x) e))

pub digit_plain : (b : ℕ) → digit_value b < 16 → is_blank b ≡ false
digit_plain b h = rw (digit_other b 32 h (omega arith), digit_other b 9 h (omega arith)) refl

-- ---- digits

value_push : (base n : ℕ) (ds : List ℕ) (d : ℕ) → digits_value_after base n (ds ++ d ∷ []) ≡ digits_value_after base n ds * base + digit_value d
value_push base n [] d = refl
value_push base n (c ∷ cs) d = value_push base (n * base + digit_value c) cs d

push_digits : (base : ℕ) (ds : List ℕ) (d : ℕ) → AllDigits base ds → digit_value d < base → AllDigits base (ds ++ d ∷ [])
push_digits base [] d h lt = (lt, tt)
push_digits base (c ∷ cs) d h lt = (h.0, push_digits base cs d h.1 lt)

-- a number has at most so many digits
abbrev pub HasDigits : ℕ → ℕ → ℕ → Type 0
HasDigits base zero x = x < 1
HasDigits base (suc n) x = HasDigits base n (x / base)

pub digits_long : (base n x : ℕ) → length (digits base n x) ≡ n
unfolding digits
digits_long base zero x = refl
digits_long base (suc n) x =
    length-append (digits base n (x / base)) (digit (x % base) ∷ []) ∙ ap (λ k. k + 1) (digits_long base n (x / base)) ∙ one_more n
  where
    one_more : (n : ℕ) → n + 1 ≡ suc n
    one_more n = omega arith

pub digits_all : (base n x : ℕ) → base ≤ 16 → ((y : ℕ) → y % base < base) → AllDigits base (digits base n x)
unfolding digits
digits_all base zero x le rest = tt
digits_all base (suc n) x le rest =
    push_digits base (digits base n (x / base)) (digit (x % base)) (digits_all base n (x / base) le rest)
    (omega (arith, digit_is (x % base) (omega (arith, rest x, le)), rest x))

pub digits_are : (base n x : ℕ) → base ≤ 16 → ((y : ℕ) → y % base < base) → ((y : ℕ) → y / base * base + y % base ≡ y) → HasDigits base n x
    → digits_value base (digits base n x) ≡ x
unfolding digits
digits_are base zero x le rest whole h = omega (arith, h)
digits_are base (suc n) x le rest whole h =
    value_push base 0 (digits base n (x / base)) (digit (x % base))
    ∙ ap (λ v. v * base + digit_value (digit (x % base))) (digits_are base n (x / base) le rest whole h)
    ∙ ap (λ v. x / base * base + v) (digit_is (x % base) (omega (arith, rest x, le)))
    ∙ whole x

-- ---- reading them

pub take_front : (ds r : List ℕ) → take (length ds) (ds ++ r) ≡ ds
take_front [] r = refl
take_front (d ∷ ds) r = ap (λ xs. d ∷ xs) (take_front ds r)

pub drop_front : (ds r : List ℕ) → drop (length ds) (ds ++ r) ≡ r
drop_front [] r = refl
drop_front (d ∷ ds) r = drop_front ds r

all_test : (base : ℕ) (ds : List ℕ) → AllDigits base ds → list_all (λ b. is_digit b base) ds ≡ true
all_test base [] h = refl
all_test base (d ∷ ds) h = rw (lt-ltb (digit_value d) base h.0) (all_test base ds h.1)

number_front : (base : ℕ) (ds r : List ℕ) → AllDigits base ds → number_at base (length ds) (ds ++ r) ≡ Some (digits_value base ds, r)
unfolding number_at
number_front base ds r h =
    rw (
      le-ltb (length (ds ++ r)) (length ds) (omega (arith, length-append ds r)),
      take_front ds r,
      drop_front ds r,
      all_test base ds h,
    ) refl

pub number_is : (base n v : ℕ) (ds r : List ℕ) → length ds ≡ n → AllDigits base ds → digits_value base ds ≡ v → number_at base n (ds ++ r) ≡ Some (v, r)
number_is base n v ds r len h is =
    ap (λ k. number_at base k (ds ++ r)) (sym len) ∙ number_front base ds r h ∙ ap (λ k. Some (k, r)) is

prefix_digits : (ds r : List ℕ) → AllDigits 10 ds → prefix_len (λ b. is_digit b 10) (ds ++ 46 ∷ r) ≡ length ds
prefix_digits [] r h = refl
prefix_digits (d ∷ ds) r h = rw (lt-ltb (digit_value d) 10 h.0) (omega (arith, prefix_digits ds r h.1))

pub seconds_are : (v : ℕ) (ds r : List ℕ) → 0 < length ds → length ds ≤ 12 → AllDigits 10 ds → digits_value 10 ds ≡ v → seconds_at (ds ++ 46 ∷ r) ≡ Some (v, 46 ∷ r)
unfolding seconds_at
seconds_are v ds r some few h is =
    rw (
      prefix_digits ds r h,
      ne_eqb (length ds) 0 (λ e. omega (arith, e, some)),
      le-ltb 12 (length ds) few,
    ) (number_is 10 (length ds) v ds (46 ∷ r) refl h is)

pub skip_many : (k : ℕ) (bs : List ℕ) → skip_blanks (replicate k 32 ++ bs) ≡ skip_blanks bs
skip_many zero bs = refl
skip_many (suc k) bs = skip_many k bs

pub skip_digits : (base : ℕ) (ds r : List ℕ) → base ≤ 16 → 0 < length ds → AllDigits base ds → skip_blanks (ds ++ r) ≡ ds ++ r
skip_digits base [] r le some h = absurd (omega (arith, some))
skip_digits base (d ∷ ds) r le some h = rw (digit_plain d (omega (arith, h.0, le))) refl
