-- Words and numbers at the front: what is spelled is read again, and nothing else is read.
use Rattle.std.proofs.Common.{◌≡◌, ℕ, ℤ, pos, negsuc, zero, suc, ◌+◌, ◌-◌, ◌*◌, cond, ◌^◌, ◌<◌, ◌≤◌, List, [], ◌∷◌, ◌++◌, length, drop, get_or, Option, Some, None, Bool, true, false, refl, sym, ap, ◌∙◌, arith, le_refl, le_trans, inl, inr}
use Rattle.std.proofs.Common.{◌⊎◌, cond, subst}
use Rattle.std.proofs.lemmas.Bool.{lt-leb, le-leb, leb-true, eqb-false, eqb-true, eq-eqb, cases_Bool}
use Rattle.std.proofs.lemmas.Option.{same_Some, none-some}
use Rattle.std.specs.Fmt.{decimal, signed_decimal}
use Rattle.std.proofs.lemmas.Fmt.{decimal_digit, decimal_is_IsNumeral, first_decimal, decimal-digits_value}
use Rattle.std.proofs.lemmas.Str.Parse.{numerals_by_value, tells_digits}
use Rattle.std.specs.Char.{is_ascii_digit}
use Rattle.std.proofs.Math.Dec.{eqb, leb}
use Rattle.std.specs.Char.{digit_value}
use Rattle.std.specs.Str.Parse.{AllDigits, digits_value, digits_value_after}
use Rattle.std.proofs.lemmas.Str.Parse.{digit_from_value}
use Rattle.std.proofs.lemmas.Str.{digit_value_digit}
use Rattle.std.specs.Int.{IsInRange}
use Rattle.std.proofs.lemmas.Bool.Decides.{nat_tests}
use Rattle.stream_text.specs.Number.{after, at_most, digits_from, number_at, integer_at, negative, negative_at, positive_at, ◌>>=◌, IsI32, NoDigit}

-- nothing is behind a word that goes on past the text
pub after_short : (ws : List ℕ) (i : ℕ) (bs : List ℕ) → i < length ws → length bs < 1 → after (drop i ws) bs ≡ None
after_short [] i bs h e = absurd (omega arith)
after_short (w ∷ ws) zero [] h e = refl
after_short (w ∷ ws) zero (b ∷ bs) h e = absurd (omega arith)
after_short (w ∷ ws) (suc i) bs h e = after_short ws i bs (omega arith) e

-- digits only make a number larger
grows_at : (n b : ℕ) (bs : List ℕ) → n ≤ (digits_from (n * 10 + (b - 48)) bs).0 → n ≤ (digits_from n (b ∷ bs)).0
grows_at n b bs h =
    elim (is_ascii_digit b) as (λ v. n ≤ (cond v (digits_from (n * 10 + (b - 48)) bs) (n, b ∷ bs)).0) [ true ↦ h | false ↦ le_refl n ]

pub digits_grow : (n : ℕ) (bs : List ℕ) → n ≤ (digits_from n bs).0
digits_grow n [] = le_refl n
digits_grow n (b ∷ bs) = grows_at n b bs (le_trans (omega arith) (digits_grow (n * 10 + (b - 48)) bs))

over : (max : ℕ) (read : ℕ × List ℕ) → max < read.0 → at_most max read ≡ None
over max read h = rw (lt-leb read.0 max h) refl

-- one digit more makes the number too large
pub too_large : (n max : ℕ) (bs : List ℕ) → 1 ≤ length bs → is_ascii_digit (get_or bs 0 0) ≡ true → max < n * 10 + (get_or bs 0 0 - 48)
    → at_most max (digits_from n bs) ≡ None
too_large n max [] h d e = absurd (omega arith)
too_large n max (b ∷ bs) h d e =
    rw d (over max (digits_from (n * 10 + (b - 48)) bs) (omega (arith, e, digits_grow (n * 10 + (b - 48)) bs)))

digit_true : (c : ℕ) → digit_value c < 10 → is_ascii_digit c ≡ true
digit_true c h = let r : IsInRange 48 57 c = digit_from_value c h in grind (arith, nat_tests)

digit_less : (c : ℕ) → digit_value c < 10 → digit_value c ≡ c - 48
digit_less c h = omega (arith, digit_value_digit c (digit_from_value c h))

digit_below : (c : ℕ) → is_ascii_digit c ≡ true → digit_value c < 10
digit_below c h = let r : IsInRange 48 57 c = grind (arith, nat_tests) in omega (arith, digit_value_digit c r)

digits_read : (n : ℕ) (ds rest : List ℕ) → AllDigits 10 ds → digits_from n (ds ++ rest) ≡ digits_from (digits_value_after 10 n ds) rest
digits_read n [] rest h = refl
digits_read n (d ∷ ds) rest h =
    rw (digit_true d h.0)
    (digits_read (n * 10 + (d - 48)) ds rest h.1 ∙ ap (λ k. digits_from (digits_value_after 10 (n * 10 + k) ds) rest) (sym (digit_less d h.0)))

digits_stop : (n : ℕ) (rest : List ℕ) → NoDigit rest → digits_from n rest ≡ (n, rest)
digits_stop n [] h = refl
digits_stop n (b ∷ bs) h = rw h refl

at_digit : (max d : ℕ) (bs : List ℕ) → eqb d 48 ≡ false → is_ascii_digit d ≡ true → number_at max (d ∷ bs) ≡ at_most max (digits_from (d - 48) bs)
unfolding number_at
at_digit max d bs e f = rw (e, f) refl

fits : (max : ℕ) (read : ℕ × List ℕ) → read.0 ≤ max → at_most max read ≡ Some read
fits max read h = rw (le-leb read.0 max h) refl

not_equal : (a b : ℕ) → b < a → eqb a b ≡ false
not_equal a b h = grind (arith, nat_tests)

read_digits : (max : ℕ) (ds rest : List ℕ) → 0 < length ds → AllDigits 10 ds → 48 < get_or ds 0 0 → digits_value 10 ds ≤ max → NoDigit rest
    → number_at max (ds ++ rest) ≡ Some (digits_value 10 ds, rest)
read_digits max [] rest l h f m stop = absurd (omega arith)
read_digits max (d ∷ ds) rest l h f m stop =
    let first : d - 48 ≡ 0 * 10 + digit_value d = omega (arith, digit_less d h.0) in
    at_digit max d (ds ++ rest) (not_equal d 48 f) (digit_true d h.0)
    ∙ ap (λ k. at_most max (digits_from k (ds ++ rest))) first
    ∙ ap (at_most max) (digits_read (0 * 10 + digit_value d) ds rest h.1 ∙ digits_stop (digits_value 10 (d ∷ ds)) rest stop)
    ∙ fits max (digits_value 10 (d ∷ ds), rest) m

read_zero : (max : ℕ) (rest : List ℕ) → number_at max (48 ∷ rest) ≡ Some (0, rest)
unfolding number_at
read_zero max rest = refl

-- a number that is spelled is read again, whatever follows it but a digit
pub number_again : (max n : ℕ) (rest : List ℕ) → n ≤ max → max < 2 ^ 64 → NoDigit rest → number_at max (decimal n ++ rest) ≡ Some (n, rest)
number_again max zero rest m w stop = ap (λ ds. number_at max (ds ++ rest)) (decimal_digit 0 (omega arith)) ∙ read_zero max rest
number_again max (suc n) rest m w stop =
    let small : suc n < 2 ^ 64 = omega arith in
    let (numeral, value) = decimal_is_IsNumeral (suc n) small in
    let least = first_decimal (suc n) (omega arith) small in
    read_digits max (decimal (suc n)) rest numeral.0 numeral.1 least (omega (arith, value)) stop ∙ ap (λ k. Some (k, rest)) value

-- a text is its digits, and what stands behind them
digits_split : (n : ℕ) (bs : List ℕ) → (ds : List ℕ) × (rest : List ℕ) × (bs ≡ ds ++ rest) × AllDigits 10 ds × (digits_from n bs ≡ (digits_value_after 10 n ds, rest))
digits_split n [] = ([], [], refl, tt, refl)
digits_split n (b ∷ bs) =
    let (ds, rest, split, all, read) = digits_split (n * 10 + (b - 48)) bs in
    elim (cases_Bool (is_ascii_digit b)) [
      | inl digit ↦ (
        b ∷ ds,
        rest,
        ap (λ t. b ∷ t) split,
        (digit_below b digit, all),
        rw digit (read ∙ ap (λ k. (digits_value_after 10 (n * 10 + k) ds, rest)) (sym (digit_less b (digit_below b digit)))),
      )
      | inr other ↦ ([], b ∷ bs, refl, tt, rw other refl)
    ]

pub chosen : {A : Type 0} (b : Bool) (x y z : A) → cond b x y ≡ z → ((b ≡ true) × (x ≡ z)) ⊎ ((b ≡ false) × (y ≡ z))
chosen true x y z h = inl (refl, h)
chosen false x y z h = inr (refl, h)

at_most_read : (max n : ℕ) (read : ℕ × List ℕ) (rest : List ℕ) → at_most max read ≡ Some (n, rest) → (read ≡ (n, rest)) × (read.0 ≤ max)
at_most_read max n read rest h =
    elim (chosen (leb read.0 max) (Some read) None (Some (n, rest)) h) [
      | inl this ↦ (same_Some read (n, rest) this.1, leb-true read.0 max this.0)
      | inr other ↦ absurd (none-some (n, rest) other.1)
    ]

digit_read : (max n b : ℕ) (bs rest : List ℕ) → max < 2 ^ 64 → is_ascii_digit b ≡ true → eqb b 48 ≡ false → at_most max (digits_from (b - 48) bs) ≡ Some (n, rest)
    → (b ∷ bs ≡ decimal n ++ rest) × (n ≤ max)
digit_read max n b bs rest w digit other h =
    let (ds, behind, split, all, read) = digits_split (b - 48) bs in
    let (same, small) = at_most_read max n (digits_from (b - 48) bs) rest h in
    let below = digit_below b digit in
    let first : b - 48 ≡ 0 * 10 + digit_value b = omega (arith, digit_less b below) in
    let parts : ◌≡◌ {A = ℕ × List ℕ} (digits_value_after 10 (b - 48) ds, behind) (n, rest) = sym read ∙ same in
    let value : digits_value 10 (b ∷ ds) ≡ n = ap (λ k. digits_value_after 10 k ds) (sym first) ∙ ap (λ p. p.0) parts in
    let within : n ≤ max = omega (arith, small, ap (λ p. p.0) same) in
    let again : decimal (digits_value 10 (b ∷ ds)) ≡ b ∷ ds =
    decimal-digits_value (numerals_by_value (AllDigits 10) tells_digits) (b ∷ ds) (below, all) (omega arith) (λ e. absurd (eqb-false b 48 other e)) (omega (arith, value, within)) in
    (ap (λ t. b ∷ t) split ∙ ap (λ t. t ++ behind) (sym again ∙ ap decimal value) ∙ ap (λ p. decimal n ++ p.1) parts, within)

zero_read : (max n b : ℕ) (bs rest : List ℕ) → eqb b 48 ≡ true → ◌≡◌ {A = Option (ℕ × List ℕ)} (Some (0, bs)) (Some (n, rest)) → (b ∷ bs ≡ decimal n ++ rest) × (n ≤ max)
zero_read max n b bs rest e h =
    let same = same_Some (0, bs) (n, rest) h in
    let none : 0 ≡ n = ap (λ p. p.0) same in
    (ap (λ k. k ∷ bs) (eqb-true b 48 e) ∙ ap (λ ds. ds ++ bs) (sym (decimal_digit 0 (omega arith))) ∙ ap (λ p. decimal p.0 ++ p.1) same, omega arith)

-- nothing but a number that is spelled is read
pub number_only : (max n : ℕ) (bs rest : List ℕ) → max < 2 ^ 64 → number_at max bs ≡ Some (n, rest) → (bs ≡ decimal n ++ rest) × (n ≤ max)
unfolding number_at
number_only max n [] rest w h = absurd (none-some (n, rest) h)
number_only max n (b ∷ bs) rest w h =
    elim (chosen (eqb b 48) (Some (0, bs)) (cond (is_ascii_digit b) (at_most max (digits_from (b - 48) bs)) None) (Some (n, rest)) h) [
      | inl none ↦ zero_read max n b bs rest none.0 none.1
      | inr other ↦ elim (chosen (is_ascii_digit b) (at_most max (digits_from (b - 48) bs)) None (Some (n, rest)) other.1) [
        | inl digit ↦ digit_read max n b bs rest w digit.0 other.0 digit.1
        | inr no_digit ↦ absurd (none-some (n, rest) no_digit.1)
      ]
    ]

-- what both of two steps made
pub bind_some : {A B : Type 0} (o : Option A) (f : A → Option B) (y : B) → (o >>= f) ≡ Some y → (x : A) × (o ≡ Some x) × (f x ≡ Some y)
bind_some None f y h = absurd (none-some y h)
bind_some (Some x) f y h = (x, refl, h)

-- a word is read again, and nothing else is
pub after_again : (ws rest : List ℕ) → after ws (ws ++ rest) ≡ Some rest
after_again [] rest = refl
after_again (w ∷ ws) rest = rw (eq-eqb w w refl) (after_again ws rest)

pub after_only : (ws bs rest : List ℕ) → after ws bs ≡ Some rest → bs ≡ ws ++ rest
after_only [] bs rest h = same_Some bs rest h
after_only (w ∷ ws) [] rest h = absurd (none-some rest h)
after_only (w ∷ ws) (b ∷ bs) rest h =
    elim (chosen (eqb b w) (after ws bs) None (Some rest) h) [
      | inl same ↦ ap (λ k. k ∷ bs) (eqb-true b w same.0) ∙ ap (λ t. w ∷ t) (after_only ws bs rest same.1)
      | inr other ↦ absurd (none-some rest other.1)
    ]

-- signed numbers
behind_minus : (bs : List ℕ) → integer_at (45 ∷ bs) ≡ negative_at bs
unfolding integer_at
behind_minus bs = refl

no_minus : (b : ℕ) (bs : List ℕ) → eqb b 45 ≡ false → integer_at (b ∷ bs) ≡ positive_at (b ∷ bs)
unfolding integer_at
no_minus b bs e = rw e refl

digits_positive : (ds rest : List ℕ) → 0 < length ds → AllDigits 10 ds → integer_at (ds ++ rest) ≡ positive_at (ds ++ rest)
digits_positive [] rest l h = absurd (omega arith)
digits_positive (d ∷ ds) rest l h = no_minus d (ds ++ rest) (not_equal d 45 (omega (arith, digit_value_digit d (digit_from_value d h.0))))

negative_suc : (n : ℕ) (rest : List ℕ) → negative (suc n, rest) ≡ Some (negsuc n, rest)
negative_suc n rest = let less : suc n - 1 ≡ n = omega arith in rw (not_equal (suc n) 0 (omega arith), less) refl

-- a signed number that is spelled is read again, whatever follows it but a digit
pub integer_again : (z : ℤ) (rest : List ℕ) → IsI32 z → NoDigit rest → integer_at (signed_decimal z ++ rest) ≡ Some (z, rest)
unfolding positive_at negative_at
integer_again (pos n) rest w stop =
    let (numeral, value) = decimal_is_IsNumeral n (omega arith) in
    digits_positive (decimal n) rest numeral.0 numeral.1
    ∙ ap (λ o. o >>= λ (read : ℕ × List ℕ). Some (pos read.0, read.1)) (number_again 2147483647 n rest (omega arith) (omega arith) stop)
integer_again (negsuc n) rest w stop =
    behind_minus (decimal (suc n) ++ rest)
    ∙ ap (λ o. o >>= negative) (number_again 2147483648 (suc n) rest (omega arith) (omega arith) stop)
    ∙ negative_suc n rest

negative_only : (z : ℤ) (bs rest : List ℕ) (n : ℕ) (behind : List ℕ) → (bs ≡ decimal n ++ behind) × (n ≤ 2147483648) → negative (n, behind) ≡ Some (z, rest)
    → (45 ∷ bs ≡ signed_decimal z ++ rest) × IsI32 z
negative_only z bs rest zero behind read h = absurd (none-some (z, rest) h)
negative_only z bs rest (suc n) behind read h =
    let (split, small) = read in
    let Spelled : ℤ × List ℕ → Type 0 = λ p. (45 ∷ bs ≡ signed_decimal p.0 ++ p.1) × IsI32 p.0 in
    subst Spelled (same_Some (negsuc n, behind) (z, rest) (sym (negative_suc n behind) ∙ h)) (ap (λ t. 45 ∷ t) split, omega arith)

minus_only : (z : ℤ) (bs rest : List ℕ) → negative_at bs ≡ Some (z, rest) → (45 ∷ bs ≡ signed_decimal z ++ rest) × IsI32 z
unfolding negative_at
minus_only z bs rest h =
    let (read, found, made) = bind_some (number_at 2147483648 bs) negative (z, rest) h in
    negative_only z bs rest read.0 read.1 (number_only 2147483648 read.0 bs read.1 (omega arith) found) made

plus_only : (z : ℤ) (bs rest : List ℕ) → positive_at bs ≡ Some (z, rest) → (bs ≡ signed_decimal z ++ rest) × IsI32 z
unfolding positive_at
plus_only z bs rest h =
    let (read, found, made) = bind_some (number_at 2147483647 bs) (λ r. Some (pos r.0, r.1)) (z, rest) h in
    let (split, small) = number_only 2147483647 read.0 bs read.1 (omega arith) found in
    let Spelled : ℤ × List ℕ → Type 0 = λ p. (bs ≡ signed_decimal p.0 ++ p.1) × IsI32 p.0 in
    subst Spelled (same_Some (pos read.0, read.1) (z, rest) made) (split, omega arith)

-- nothing but a signed number that is spelled is read
pub integer_only : (z : ℤ) (bs rest : List ℕ) → integer_at bs ≡ Some (z, rest) → (bs ≡ signed_decimal z ++ rest) × IsI32 z
unfolding integer_at
integer_only z [] rest h = absurd (none-some (z, rest) h)
integer_only z (b ∷ bs) rest h =
    elim (chosen (eqb b 45) (negative_at bs) (positive_at (b ∷ bs)) (Some (z, rest)) h) [
      | inl minus ↦
          let (split, small) = minus_only z bs rest minus.1 in
          (ap (λ k. k ∷ bs) (eqb-true b 45 minus.0) ∙ split, small)
      | inr plus ↦ plus_only z (b ∷ bs) rest plus.1
    ]
