-- Words and numbers at the front of a text. What is read is given with the bytes behind it; None says that something else stands there.
use Rattle.std.specs.Prelude.{◌≡◌, ◌<◌, false, ℕ, ◌+◌, ◌*◌, ◌-◌, ◌==◌, nat_le, if◌then◌else◌, List, [], ◌∷◌, Option, Some, None, ℤ, pos, negsuc}
use Rattle.std.specs.Char.{is_ascii_digit}
use Rattle.std.specs.Str.{byte}

-- what the first reads, and then what the second makes of it
infixl 10 ◌>>=◌
abbrev pub ◌>>=◌ : {A B : Type 0} → Option A → (A → Option B) → Option B
None >>= f = None
(Some x) >>= f = f x

-- the bytes behind a word
abbrev pub after : List ℕ → List ℕ → Option (List ℕ)
after [] bs = Some bs
after (w ∷ ws) [] = None
after (w ∷ ws) (b ∷ bs) = if b == w then after ws bs else None

-- the number whose digits so far are those of n and which goes on with all digits in front, and the bytes behind them
abbrev pub digits_from : ℕ → List ℕ → ℕ × List ℕ
digits_from n [] = (n, [])
digits_from n (b ∷ bs) = if is_ascii_digit b then digits_from (n * 10 + (b - 48)) bs else (n, b ∷ bs)

-- a number, where it is at most `max`
abbrev pub at_most : ℕ → ℕ × List ℕ → Option (ℕ × List ℕ)
at_most max read = if nat_le read.0 max then Some read else None

-- a number of at most `max`: `0`, or as many digits as there are, the first of them not 0
unfoldable pub number_at : ℕ → List ℕ → Option (ℕ × List ℕ)
number_at max [] = None
number_at max (b ∷ bs) =
    if b == byte "0" then Some (0, bs)
    else if is_ascii_digit b then at_most max (digits_from (b - 48) bs)
    else None

-- the negative of a number that is not 0
abbrev pub negative : ℕ × List ℕ → Option (ℤ × List ℕ)
negative read = if read.0 == 0 then None else Some (negsuc (read.0 - 1), read.1)

-- the signed number behind `-`, and the one without a sign
unfoldable pub negative_at : List ℕ → Option (ℤ × List ℕ)
negative_at bs = number_at 2147483648 bs >>= negative

-- a number that is at most the greatest one of 32 bits with a sign
unfoldable pub positive_at : List ℕ → Option (ℤ × List ℕ)
positive_at bs = number_at 2147483647 bs >>= λ read. Some (pos read.0, read.1)

-- a signed number of 32 bits: a number, or `-` and a number that is not 0
unfoldable pub integer_at : List ℕ → Option (ℤ × List ℕ)
integer_at [] = None
integer_at (b ∷ bs) =
    if b == byte "-" then negative_at bs else positive_at (b ∷ bs)

-- what was read, where nothing stands behind it
abbrev pub whole : {A : Type 0} → A × List ℕ → Option A
whole (x, []) = Some x
whole (x, b ∷ bs) = None

-- no digit stands in front
abbrev pub NoDigit : List ℕ → Type 0
NoDigit [] = Unit {0}
NoDigit (b ∷ bs) = is_ascii_digit b ≡ false

-- a number of 32 bits
abbrev pub IsI32 : ℤ → Type 0
IsI32 (pos n) = n < 2147483648
IsI32 (negsuc n) = n < 2147483648
