-- Numbers, digit by digit.
use Rattle.std.proofs.Common.{◌≡◌, ℕ, suc, ◌+◌, ◌-◌, ◌*◌, ◌<◌, ◌≤◌, arith, List, [], ◌∷◌, length, drop, get_or, Bool, true, false, ◌&&◌, cond, nat_le, Some, None, refl, drop-cons}
use Rattle.std.specs.Char.{digit_value, is_ascii_digit}
use Rattle.std.specs.Str.Parse.{digits_value, digits_value_after}
use Rattle.std.proofs.lemmas.Bool.Decides.{nat_tests}
use Rattle.command_words.specs.Value.{is_numeral, number}

-- what a decimal digit is worth
pub digit_is : (b : ℕ) → is_ascii_digit b ≡ true → b - 48 ≡ digit_value b
digit_is b h = grind (arith, nat_tests)

-- further digits make no number less
value_grows : (n : ℕ) (ds : List ℕ) → n ≤ digits_value_after 10 n ds
value_grows n [] = omega arith
value_grows n (d ∷ ds) = omega (arith, value_grows (n * 10 + digit_value d) ds)

no_number : (t low : Bool) (n : ℕ) → cond t (cond (low && false) (Some n) None) None ≡ None
no_number true true n = refl
no_number true false n = refl
no_number false low n = refl

-- digits of a number above the range do not write a number in it
pub too_great : (low high : ℕ) (value : List ℕ) → high < digits_value 10 value → number low high value ≡ None
unfolding number
too_great low high value h =
    let great : nat_le (digits_value 10 value) high ≡ false = grind (arith, nat_tests) in
    rw great (no_number (is_numeral value) (nat_le low (digits_value 10 value)) (digits_value 10 value))

-- a number that exceeds the range with the digit at i is not in it, whatever follows
pub past_range : (low high n i d : ℕ) (ds : List ℕ) → i < length ds → d ≡ digit_value (get_or ds i 0)
    → digits_value_after 10 n (drop i ds) ≡ digits_value 10 ds → high < n * 10 + d → number low high ds ≡ None
past_range low high n i d ds inside digit is above =
    let next : digits_value_after 10 n (drop i ds) ≡ digits_value_after 10 (n * 10 + d) (drop (suc i) ds)
    = rw (drop-cons ds i 0 inside, digit) refl in
    too_great low high ds (omega (arith, next, is, value_grows (n * 10 + d) (drop (suc i) ds)))
