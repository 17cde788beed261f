-- Numbers of 16 bits, digit by digit.
use Rattle.std.proofs.Common.{◌≡◌, ℕ, suc, ◌+◌, ◌*◌, ◌<◌, ◌≤◌, arith, List, [], ◌∷◌, length, drop, get_or, Bool, true, false, ◌&&◌, cond, nat_lt, Some, None, refl, sym, drop-cons}
use Rattle.std.specs.Char.{digit_value, is_digit}
use Rattle.std.specs.List.{list_all}
use Rattle.std.specs.Str.Parse.{digits_value, digits_value_after}
use Rattle.std.proofs.lemmas.Nat.{mul-le}
use Rattle.std.proofs.lemmas.Bool.Decides.{nat_tests}
use Rattle.key_layout.specs.Text.{number}

-- further digits make no number less
value_grows : (base n : ℕ) (ds : List ℕ) → 1 < base → n ≤ digits_value_after base n ds
value_grows base n [] h = omega arith
value_grows base n (d ∷ ds) h =
    let more : n * 1 ≤ n * base = mul-le n 1 n base (omega arith) (omega arith) in
    omega (arith, value_grows base (n * base + digit_value d) ds h)

no_number : (a b : Bool) (n : ℕ) → cond (a && (b && false)) (Some n) None ≡ None
no_number true true n = refl
no_number true false n = refl
no_number false b n = refl

too_great : (base : ℕ) (ds : List ℕ) → 65535 < digits_value base ds → number base ds ≡ None
unfolding number
too_great base ds h =
    let great : nat_lt (digits_value base ds) 65536 ≡ false = grind (arith, nat_tests) in
    rw great (no_number (nat_lt 0 (length ds)) (list_all (λ b. is_digit b base) ds) (digits_value base ds))

-- a number that is above 65535 with the digit at i is none of 16 bits, whatever follows
pub past_room : (base n i d : ℕ) (ds : List ℕ) → 1 < base → i < length ds → d ≡ digit_value (get_or ds i 0)
    → digits_value_after base n (drop i ds) ≡ digits_value base ds → 65535 < n * base + d → None ≡ number base ds
past_room base n i d ds b within is value above =
    let next : digits_value_after base n (drop i ds) ≡ digits_value_after base (n * base + d) (drop (suc i) ds)
    = rw (drop-cons ds i 0 within, is) refl in
    sym (too_great base ds (omega (arith, value_grows base (n * base + d) (drop (suc i) ds) b)))
