-- The bytes of one line: blanks, words and numbers. A definition with `at` in its name reads what stands in front, and gives it with the bytes behind it, or None where something else stands there.
use Rattle.std.specs.Prelude.{ℕ, ◌==◌, nat_lt, if◌then◌else◌, List, [], ◌∷◌, length, take, drop, Option, Some, None}
use Rattle.text_lines.specs.Blanks.{is_blank, skip_blanks}
use Rattle.std.specs.Char.{is_digit}
use Rattle.std.specs.List.{list_all}
use Rattle.std.specs.Str.Parse.{digits_value}

-- what the first reads, and then what the second makes of it
infixl 10 ◌>>=◌
abbrev pub ◌>>=◌ : {A B : Type 0} → Option A → (A → Option B) → Option B
None >>= f = None
(Some x) >>= f = f x

-- the bytes behind at least one blank
abbrev pub after_blanks : List ℕ → Option (List ℕ)
after_blanks [] = None
after_blanks (b ∷ bs) = if is_blank b then Some (skip_blanks bs) else None

-- the bytes behind this byte
abbrev pub after_byte : ℕ → List ℕ → Option (List ℕ)
after_byte c [] = None
after_byte c (b ∷ bs) = if b == c then Some bs else None

-- the number that the digits write in the base; None where a byte is no digit of it
abbrev pub number : ℕ → List ℕ → Option ℕ
number base digits = if list_all (λ b. is_digit b base) digits then Some (digits_value base digits) else None

-- exactly so many digits in front
unfoldable pub number_at : ℕ → ℕ → List ℕ → Option (ℕ × List ℕ)
number_at base len bs = if nat_lt (length bs) len then None else number base (take len bs) >>= λ n. Some (n, drop len bs)
