-- The digits of a number, three at a time.
use Rattle.std.specs.Prelude.{◌≡◌, ℕ, ◌+◌, ◌-◌, ◌*◌, ◌/◌, ◌%◌, ◌^◌, ◌<◌, ◌≤◌, List, [], ◌∷◌, ◌++◌, length, take, drop, decimal}
use Rattle.std.proofs.Common.{inl, inr, refl, sym, ap, ◌∙◌, set, arith, append_assoc, length-append, length-drop}
use Rattle.std.proofs.Math.Seq.{take-append_seam}
use Rattle.std.proofs.lemmas.Bool.{cases_lt, lt-ltb, le-ltb}
use Rattle.std.proofs.lemmas.Fmt.{decimal_digit, decimal_step}
use Rattle.std.proofs.lemmas.Fmt.{decimal_nonempty, length-decimal-le}
use Rattle.std.proofs.lemmas.List.{drop-append-le, drop-drop, drop-set-add, drop-set-lt}
use Rattle.stream_text.specs.Triple.{digit_count, triple, triple_digits}
use Rattle.stream_text.proofs.Places.{drop_add}

one : (n : ℕ) → n < 10 → decimal n ≡ (48 + n % 10) ∷ []
one n small = let same : n % 10 ≡ n = omega arith in rw same (decimal_digit n small)

two : (n : ℕ) → 10 ≤ n → n < 100 → decimal n ≡ (48 + n / 10 % 10) ∷ (48 + n % 10) ∷ []
two n large small =
    let tens : n / 10 % 10 ≡ n / 10 = omega arith in
    rw (decimal_step n large (omega arith), decimal_digit (n / 10) (omega arith), tens)

three : (n : ℕ) → 100 ≤ n → n < 1000 → decimal n ≡ triple_digits n
three n large small =
    let front : n / 10 / 10 ≡ n / 100 = omega arith in
    let first : n / 100 % 10 ≡ n / 100 = omega arith in
    rw (decimal_step n (omega arith) (omega arith), two (n / 10) (omega arith) (omega arith), front, first)

-- a number below 1,000 is the last ones of its three digits
pub short : (n : ℕ) → n < 1000 → decimal n ≡ drop (3 - length (decimal n)) (triple_digits n)
short n small =
    elim (cases_lt n 10) [
      | inl below ↦ rw (one n below)
      | inr above ↦ elim (cases_lt n 100) [
        | inl below ↦ rw (two n above below)
        | inr rest ↦ rw (three n rest small)
      ]
    ]

-- how many they are
pub counted : (n : ℕ) → n < 1000 → digit_count n ≡ length (decimal n)
counted n small =
    elim (cases_lt n 10) [
      | inl below ↦ rw (one n below, lt-ltb n 10 below)
      | inr above ↦ elim (cases_lt n 100) [
        | inl below ↦ rw (two n above below, le-ltb n 10 above, lt-ltb n 100 below)
        | inr rest ↦ rw (three n rest small, le-ltb n 10 above, le-ltb n 100 rest)
      ]
    ]

-- the digits of a larger number end in three
pub more : (n : ℕ) → 1000 ≤ n → n < 2 ^ 64 → decimal n ≡ decimal (n / 1000) ++ triple_digits (n % 1000)
more n large fits =
    let front : n / 10 / 10 / 10 ≡ n / 1000 = omega arith in
    let hundreds : n / 10 / 10 % 10 ≡ n % 1000 / 100 = omega arith in
    let tens : n / 10 % 10 ≡ n % 1000 / 10 % 10 = omega arith in
    let ones : n % 10 ≡ n % 1000 % 10 = omega arith in
    rw (decimal_step n (omega arith) fits, decimal_step (n / 10) (omega arith) (omega arith), decimal_step (n / 10 / 10) (omega arith) (omega arith), append_assoc, append_assoc, front, hundreds, tens, ← ones)

pub more_long : (n : ℕ) → 1000 ≤ n → n < 2 ^ 64 → length (decimal n) ≡ length (decimal (n / 1000)) + 3
more_long n large fits = ap length (more n large fits) ∙ length-append _ _

three_put : (xs : List ℕ) (b c d : ℕ) → 3 ≤ length xs → set (set (set xs 0 b) 1 c) 2 d ≡ b ∷ c ∷ d ∷ drop 3 xs
three_put [] b c d room = absurd (omega arith)
three_put (x ∷ []) b c d room = absurd (omega arith)
three_put (x ∷ y ∷ []) b c d room = absurd (omega arith)
three_put (x ∷ y ∷ z ∷ xs) b c d room = refl

-- four bytes put one behind the other: what stands behind the first
pub four_put : (xs : List ℕ) (at n i j k a b c d : ℕ) → at < n → i ≡ n + 0 → j ≡ n + 1 → k ≡ n + 2 → n + 3 ≤ length xs
    → drop n (set (set (set (set xs at a) i b) j c) k d) ≡ b ∷ c ∷ d ∷ drop (n + 3) xs
four_put xs at n i j k a b c d before first second third room =
    rw (third, drop-set-add n _ 2 d, second, drop-set-add n _ 1 c, first, drop-set-add n _ 0 b, drop-set-lt n xs at a before)
    (three_put (drop n xs) b c d (omega (arith, length-drop n xs)) ∙ ap (λ t. b ∷ c ∷ d ∷ t) (drop-drop 3 n xs))

parts : (r a b c d : ℕ) → r ≡ a + 256 * b + 65536 * c + 16777216 * d → a < 256 → b < 256 → c < 256 → d < 256
    → (r % 256 ≡ a) × (r / 256 % 256 ≡ b) × (r / 65536 % 256 ≡ c) × (r / 16777216 ≡ d)
parts r a b c d is small-a small-b small-c small-d = (omega arith, omega arith, omega arith, omega arith)

-- the bytes of the number that stands for three digits
pub bytes : (n r : ℕ) → n < 1000 → r ≡ triple n
    → (r % 256 ≡ length (decimal n)) × (r / 256 % 256 ≡ 48 + n / 100) × (r / 65536 % 256 ≡ 48 + n / 10 % 10) × (r / 16777216 ≡ 48 + n % 10)
bytes n r small is =
    let whole : r ≡ length (decimal n) + 256 * (48 + n / 100) + 65536 * (48 + n / 10 % 10) + 16777216 * (48 + n % 10)
    = is ∙ ap (λ k. k + 256 * (48 + n / 100) + 65536 * (48 + n / 10 % 10) + 16777216 * (48 + n % 10)) (counted n small)
    in
    let most : length (decimal n) ≤ 3 = length-decimal-le 3 n (omega arith) (omega arith) (omega arith) in
    parts r (length (decimal n)) (48 + n / 100) (48 + n / 10 % 10) (48 + n % 10) whole (omega arith) (omega arith) (omega arith) (omega arith)

-- what stands behind a number of three digits, from its first digit on
pub last_of : (n end : ℕ) (xs ys : List ℕ) → n < 1000 → 4 ≤ end → drop (end - 3) xs ≡ triple_digits n ++ ys
    → drop (end - length (decimal n)) xs ≡ decimal n ++ ys
last_of n end xs ys small room three_are =
    let most : length (decimal n) ≤ 3 = length-decimal-le 3 n (omega arith) (omega arith) (omega arith) in
    let from : end - length (decimal n) ≡ end - 3 + (3 - length (decimal n)) = omega arith in
    ap (λ k. drop k xs) from
    ∙ drop_add (end - 3) (3 - length (decimal n)) xs
    ∙ ap (drop (3 - length (decimal n))) three_are
    ∙ drop-append-le (3 - length (decimal n)) (triple_digits n) ys (omega arith)
    ∙ ap (λ t. t ++ ys) (sym (short n small))

-- a number has a digit
pub at_least : (n : ℕ) → n < 2 ^ 64 → 1 ≤ length (decimal n)
at_least n fits = decimal_nonempty n fits

-- a number from the one with zeros for its last three digits, and from them
pub based : (base n : ℕ) → 1000 ≤ base → base % 1000 ≡ 0 → base ≤ n → n - base < 1000 → n < 2 ^ 64 → decimal n ≡ decimal (base / 1000) ++ triple_digits (n - base)
based base n large round above near fits =
    let front : n / 1000 ≡ base / 1000 = omega arith in
    let rest : n % 1000 ≡ n - base = omega arith in
    more n (omega arith) fits ∙ ap (λ k. decimal k ++ triple_digits (n % 1000)) front ∙ ap (λ k. decimal (base / 1000) ++ triple_digits k) rest

-- and from the one with zeros for its last six
pub based_six : (base n : ℕ) → 1000000 ≤ base → base % 1000000 ≡ 0 → base ≤ n → n - base < 1000000 → n < 2 ^ 64
    → decimal n ≡ (decimal (base / 1000000) ++ triple_digits ((n - base) / 1000)) ++ triple_digits ((n - base) % 1000)
based_six base n large round above near fits =
    let front : n / 1000 / 1000 ≡ base / 1000000 = omega arith in
    let middle : n / 1000 % 1000 ≡ (n - base) / 1000 = omega arith in
    let rest : n % 1000 ≡ (n - base) % 1000 = omega arith in
    more n (omega arith) fits
    ∙ ap (λ t. t ++ triple_digits (n % 1000)) (more (n / 1000) (omega arith) (omega arith))
    ∙ ap (λ k. (decimal k ++ triple_digits (n / 1000 % 1000)) ++ triple_digits (n % 1000)) front
    ∙ ap (λ k. (decimal (base / 1000000) ++ triple_digits k) ++ triple_digits (n % 1000)) middle
    ∙ ap (λ k. (decimal (base / 1000000) ++ triple_digits ((n - base) / 1000)) ++ triple_digits k) rest

-- the digits of a number but for the last three
pub front_of : (n at e : ℕ) (xs ys : List ℕ) → 1000 ≤ n → n < 2 ^ 64 → at + length (decimal n) ≡ e → drop at xs ≡ decimal n ++ ys
    → take (e - 3 - at) (drop at xs) ≡ decimal ((n - n % 1000) / 1000)
front_of n at e xs ys large fits ends written =
    let same : (n - n % 1000) / 1000 ≡ n / 1000 = omega arith in
    let long = more_long n large fits in
    let count : e - 3 - at ≡ length (decimal (n / 1000)) = omega arith in
    let text : drop at xs ≡ decimal (n / 1000) ++ (triple_digits (n % 1000) ++ ys) =
    written ∙ ap (λ t. t ++ ys) (more n large fits) ∙ append_assoc (decimal (n / 1000)) (triple_digits (n % 1000)) ys
    in
    ap (take (e - 3 - at)) text ∙ ap (λ k. take k (decimal (n / 1000) ++ (triple_digits (n % 1000) ++ ys))) count
    ∙ take-append_seam (decimal (n / 1000)) (triple_digits (n % 1000) ++ ys) ∙ ap decimal (sym same)

-- and but for the last six
pub front_of_six : (n at e : ℕ) (xs ys : List ℕ) → 1000000 ≤ n → n < 2 ^ 64 → at + length (decimal n) ≡ e → drop at xs ≡ decimal n ++ ys
    → take (e - 6 - at) (drop at xs) ≡ decimal ((n - n % 1000000) / 1000000)
front_of_six n at e xs ys large fits ends written =
    let same : (n - n % 1000000) / 1000000 ≡ n / 1000 / 1000 = omega arith in
    let long = more_long n (omega arith) fits in
    let longer = more_long (n / 1000) (omega arith) (omega arith) in
    let count : e - 6 - at ≡ length (decimal (n / 1000 / 1000)) = omega arith in
    let parts : decimal n ≡ (decimal (n / 1000 / 1000) ++ triple_digits (n / 1000 % 1000)) ++ triple_digits (n % 1000) =
    more n (omega arith) fits ∙ ap (λ t. t ++ triple_digits (n % 1000)) (more (n / 1000) (omega arith) (omega arith))
    in
    let text : drop at xs ≡ decimal (n / 1000 / 1000) ++ (triple_digits (n / 1000 % 1000) ++ (triple_digits (n % 1000) ++ ys)) =
    written ∙ ap (λ t. t ++ ys) parts
    ∙ append_assoc (decimal (n / 1000 / 1000) ++ triple_digits (n / 1000 % 1000)) (triple_digits (n % 1000)) ys
    ∙ append_assoc (decimal (n / 1000 / 1000)) (triple_digits (n / 1000 % 1000)) (triple_digits (n % 1000) ++ ys)
    in
    ap (take (e - 6 - at)) text ∙ ap (λ k. take k (decimal (n / 1000 / 1000) ++ (triple_digits (n / 1000 % 1000) ++ (triple_digits (n % 1000) ++ ys)))) count
    ∙ take-append_seam (decimal (n / 1000 / 1000)) (triple_digits (n / 1000 % 1000) ++ (triple_digits (n % 1000) ++ ys)) ∙ ap decimal (sym same)
