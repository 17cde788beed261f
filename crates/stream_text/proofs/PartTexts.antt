-- The parts of which the texts of messages are made: numbers behind words, a device, and the flags.
use Rattle.std.proofs.Common.{◌≡◌, ℕ, ◌^◌, ◌<◌, ◌≤◌, ◌⊎◌, cond, List, [], ◌∷◌, ◌++◌, length, Option, Some, None, Bool, true, false, refl, sym, ap, ap₂, ◌∙◌, subst, arith, inl, inr, bit_or}
use Rattle.std.specs.Prelude.{codes}
use Rattle.std.specs.Fmt.{decimal}
use Rattle.std.proofs.Math.Dec.{eqb}
use Rattle.std.proofs.lemmas.Bool.Decides.{nat_tests}
use Rattle.std.proofs.lemmas.List.{append_assoc}
use Rattle.std.proofs.lemmas.Option.{same_Some, none-some}
use Rattle.std.proofs.lemmas.Fmt.{decimal_is_IsNumeral}
use Rattle.std.proofs.lemmas.Str.{digit_value_digit}
use Rattle.std.proofs.lemmas.Str.Parse.{digit_from_value}
use Rattle.std.specs.Str.Parse.{AllDigits}
use Rattle.stream_text.specs.Number.{after, number_at, whole, NoDigit}
use Rattle.stream_text.specs.Spelling.{canceled, flag_words, labeled, word_if}
use Rattle.stream_text.specs.MessageLine.{canceled_at, chosen_by, device_at, flag_at, flag_by, flags_at, flags_of, labeled_at, with_flag, HasFlag, HasFlags}
use Rattle.stream_text.proofs.Numbers.{after_again, after_only, bind_some, number_again, number_only}

pub not_zero : (n : ℕ) → 1 ≤ n → eqb n 0 ≡ false
not_zero n h = grind (arith, nat_tests)

-- a number behind some words
pub labeled_again : (words : List ℕ) (max n : ℕ) (rest : List ℕ) → n ≤ max → max < 2 ^ 64 → NoDigit rest → labeled_at words max (words ++ (decimal n ++ rest)) ≡ Some (n, rest)
unfolding labeled_at
labeled_again words max n rest m w stop = rw (after_again words (decimal n ++ rest)) (number_again max n rest m w stop)

pub labeled_only : (words : List ℕ) (max : ℕ) (bs : List ℕ) (read : ℕ × List ℕ) → max < 2 ^ 64 → labeled_at words max bs ≡ Some read
    → (bs ≡ words ++ (decimal read.0 ++ read.1)) × (read.0 ≤ max)
unfolding labeled_at
labeled_only words max bs read w h =
    let (rest, found, made) = bind_some (after words bs) _ read h in
    let (split, small) = number_only max read.0 rest read.1 w made in
    (after_only words bs rest found ∙ ap (λ t. words ++ t) split, small)

-- the number of a device
pub device_again : (n : ℕ) (rest : List ℕ) → 1 ≤ n → n ≤ 8 → NoDigit rest → device_at (decimal n ++ rest) ≡ Some (n, rest)
unfolding device_at
device_again n rest l m stop = rw (number_again 8 n rest m (omega arith) stop, not_zero n l) refl

pub none_of : {A : Type 0} (b : Bool) (x y : A) → cond b None (Some x) ≡ Some y → (b ≡ false) × (x ≡ y)
none_of true x y h = absurd (none-some y h)
none_of false x y h = (refl, same_Some x y h)

pub device_only : (bs : List ℕ) (read : ℕ × List ℕ) → device_at bs ≡ Some read → (bs ≡ decimal read.0 ++ read.1) × (1 ≤ read.0) × (read.0 ≤ 8)
unfolding device_at
device_only bs read h =
    let (n, found, made) = bind_some (number_at 8 bs) _ read h in
    let (other, same) = none_of (eqb n.0 0) n read made in
    let (split, small) = number_only 8 n.0 bs n.1 (omega arith) found in
    let Spelled : ℕ × List ℕ → Type 0 = λ r. (bs ≡ decimal r.0 ++ r.1) × (1 ≤ r.0) × (r.0 ≤ 8) in
    subst Spelled same (split, grind (arith, nat_tests), small)

-- ` canceled`, ` obscured` and ` partly`: none of them stands where a space and a number do
digit_first : (ds rest : List ℕ) → 0 < length ds → AllDigits 10 ds → (d : ℕ) × (d < 58) × ((xs : List ℕ) × (ds ++ rest ≡ d ∷ xs))
digit_first [] rest l h = absurd (omega arith)
digit_first (d ∷ ds) rest l h = (d, omega (arith, digit_value_digit d (digit_from_value d h.0), h.0), (ds ++ rest, refl))

no_word : (c : ℕ) (word : List ℕ) (n : ℕ) (rest : List ℕ) → 58 ≤ c → n < 2 ^ 64 → after (32 ∷ c ∷ word) (32 ∷ (decimal n ++ rest)) ≡ None
no_word c word n rest high w =
    let (numeral, value) = decimal_is_IsNumeral n w in
    let (d, small, (xs, is)) = digit_first (decimal n) rest numeral.0 numeral.1 in
    let other : eqb d c ≡ false = grind (arith, nat_tests) in
    ap (λ ys. after (32 ∷ c ∷ word) (32 ∷ ys)) is ∙ rw other refl

-- a flag, by whether its word stands there
flag_none : (word : List ℕ) (flag : ℕ) (bs : List ℕ) → after word bs ≡ None → flag_at word flag bs ≡ (0, bs)
unfolding flag_at
flag_none word flag bs e = ap (λ o. flag_by flag o bs) e

flag_some : (word : List ℕ) (flag : ℕ) (bs rest : List ℕ) → after word bs ≡ Some rest → flag_at word flag bs ≡ (flag, rest)
unfolding flag_at
flag_some word flag bs rest e = ap (λ o. flag_by flag o bs) e

-- the words of the flags of a motion, and what stands behind the first of them
abbrev pub words_of : (canceled obscured partly : Bool) → List ℕ
words_of c o p = word_if c (codes " canceled") ++ word_if o (codes " obscured") ++ word_if p (codes " partly")

pub words_of_flags : (flags : ℕ) (f : HasFlags flags) → flag_words flags ≡ words_of f.0 f.1 f.2
unfolding flag_words
words_of_flags flags f = ap flag_words f.3 ∙ by_flags f.0 f.1 f.2
  where
    by_flags : (c o p : Bool) → flag_words (flags_of c o p) ≡ words_of c o p
    by_flags true true true = refl
    by_flags true true false = refl
    by_flags true false true = refl
    by_flags true false false = refl
    by_flags false true true = refl
    by_flags false true false = refl
    by_flags false false true = refl
    by_flags false false false = refl

-- a flag whose word stands in front of what does not begin with it
flag_word : (word : List ℕ) (flag : ℕ) (b : Bool) (behind : List ℕ) → after word behind ≡ None → flag_at word flag (word_if b word ++ behind) ≡ (cond b flag 0, behind)
flag_word word flag true behind e = flag_some word flag (word ++ behind) behind (after_again word behind)
flag_word word flag false behind e = flag_none word flag behind e

-- FLAG_CANCELED in front of a space and a number
pub canceled_again : (flags n : ℕ) (rest : List ℕ) → HasFlag flags → n < 2 ^ 64
    → canceled_at (canceled flags ++ (32 ∷ (decimal n ++ rest))) ≡ (flags, 32 ∷ (decimal n ++ rest))
canceled_again flags n rest (inl e) w =
    let P : ℕ → Type 0 = λ f. canceled_at (canceled f ++ (32 ∷ (decimal n ++ rest))) ≡ (f, 32 ∷ (decimal n ++ rest)) in
    subst P (sym e) (flag_word (codes " canceled") 32 false (32 ∷ (decimal n ++ rest)) (no_word 99 (codes "anceled") n rest (omega arith) w))
canceled_again flags n rest (inr e) w =
    let P : ℕ → Type 0 = λ f. canceled_at (canceled f ++ (32 ∷ (decimal n ++ rest))) ≡ (f, 32 ∷ (decimal n ++ rest)) in
    subst P (sym e) (flag_word (codes " canceled") 32 true (32 ∷ (decimal n ++ rest)) (no_word 99 (codes "anceled") n rest (omega arith) w))

-- all flags of a motion in front of a space and a number
pub all_flags_again : (flags n : ℕ) (rest : List ℕ) → HasFlags flags → n < 2 ^ 64
    → flags_at (flag_words flags ++ (32 ∷ (decimal n ++ rest))) ≡ (flags, 32 ∷ (decimal n ++ rest))
unfolding flags_at
all_flags_again flags n rest f w =
    ap (λ xs. flags_at (xs ++ end)) (words_of_flags flags f)
    ∙ ap flags_at (regrouped (word_if f.0 (codes " canceled")) (word_if f.1 (codes " obscured")) (word_if f.2 (codes " partly")))
    ∙ ap (λ r. with_flag (codes " partly") 2 (with_flag (codes " obscured") 1 r))
    (flag_word (codes " canceled") 32 f.0 (word_if f.1 (codes " obscured") ++ (word_if f.2 (codes " partly") ++ end)) (not_canceled f.1 f.2))
    ∙ ap (λ r. with_flag (codes " partly") 2 (bit_or (cond f.0 32 0) r.0, r.1))
    (flag_word (codes " obscured") 1 f.1 (word_if f.2 (codes " partly") ++ end) (not_obscured f.2))
    ∙ ap (λ r. (bit_or (bit_or (cond f.0 32 0) (cond f.1 1 0)) r.0, r.1)) (flag_word (codes " partly") 2 f.2 end (no_word 112 (codes "artly") n rest (omega arith) w))
    ∙ ap (λ x. (x, end)) (sym f.3)
  where
    end : List ℕ
    end = 32 ∷ (decimal n ++ rest)

    regrouped : (a b c : List ℕ) → a ++ b ++ c ++ end ≡ a ++ (b ++ (c ++ end))
    regrouped a b c = simp append_assoc

    not_obscured : (p : Bool) → after (codes " obscured") (word_if p (codes " partly") ++ end) ≡ None
    not_obscured true = refl
    not_obscured false = no_word 111 (codes "bscured") n rest (omega arith) w

    not_canceled : (o p : Bool) → after (codes " canceled") (word_if o (codes " obscured") ++ (word_if p (codes " partly") ++ end)) ≡ None
    not_canceled true p = refl
    not_canceled false true = refl
    not_canceled false false = no_word 99 (codes "anceled") n rest (omega arith) w

-- what stands where a flag is read
flag_read : (word : List ℕ) (flag : ℕ) (bs : List ℕ)
    → (b : Bool) × ((flag_at word flag bs).0 ≡ cond b flag 0) × (bs ≡ word_if b word ++ (flag_at word flag bs).1)
unfolding flag_at
flag_read word flag bs = by_word (after word bs) refl
  where
    by_word : (o : Option (List ℕ)) → after word bs ≡ o
        → (b : Bool) × ((flag_by flag o bs).0 ≡ cond b flag 0) × (bs ≡ word_if b word ++ (flag_by flag o bs).1)
    by_word None e = (false, refl, refl)
    by_word (Some rest) e = (true, refl, after_only word bs rest e)

pub canceled_only : (bs : List ℕ) → (bs ≡ canceled (canceled_at bs).0 ++ (canceled_at bs).1) × HasFlag (canceled_at bs).0
canceled_only bs =
    let (b, flag, is) = flag_read (codes " canceled") 32 bs in
    (is ∙ ap (λ xs. xs ++ (canceled_at bs).1) (same b ∙ ap canceled (sym flag)), subst HasFlag (sym flag) (has b))
  where
    same : (b : Bool) → word_if b (codes " canceled") ≡ canceled (cond b 32 0)
    same true = refl
    same false = refl

    has : (b : Bool) → HasFlag (cond b 32 0)
    has true = inr refl
    has false = inl refl

pub all_flags_only : (bs : List ℕ) → (bs ≡ flag_words (flags_at bs).0 ++ (flags_at bs).1) × HasFlags (flags_at bs).0
unfolding flags_at
all_flags_only bs =
    let first = canceled_at bs in
    let second = flag_at (codes " obscured") 1 first.1 in
    let third = flag_at (codes " partly") 2 second.1 in
    let (c, canceled_is, c_words) = flag_read (codes " canceled") 32 bs in
    let (o, obscured_is, o_words) = flag_read (codes " obscured") 1 first.1 in
    let (p, partly_is, p_words) = flag_read (codes " partly") 2 second.1 in
    let flags : HasFlags (bit_or (bit_or first.0 second.0) third.0) =
    (c, o, p, ap₂ bit_or (ap₂ bit_or canceled_is obscured_is) partly_is) in (
      c_words
          ∙ ap (λ xs. word_if c (codes " canceled") ++ xs) (o_words ∙ ap (λ xs. word_if o (codes " obscured") ++ xs) p_words)
          ∙ regrouped (word_if c (codes " canceled")) (word_if o (codes " obscured")) (word_if p (codes " partly")) third.1
          ∙ ap (λ xs. xs ++ third.1) (sym (words_of_flags _ flags)),
      flags,
    )
  where
    regrouped : (a b c d : List ℕ) → a ++ (b ++ (c ++ d)) ≡ a ++ b ++ c ++ d
    regrouped a b c d = simp append_assoc

pub by_word : {A : Type 0} (o : Option (List ℕ)) (f : List ℕ → Option A) (other : Option A) (y : A) → chosen_by o f other ≡ Some y
    → ((rest : List ℕ) × (o ≡ Some rest) × (f rest ≡ Some y)) ⊎ (other ≡ Some y)
by_word (Some rest) f other y h = inl (rest, refl, h)
by_word None f other y h = inr h

-- a key
pub whole_only : {A : Type 0} (x y : A) (rest : List ℕ) → whole (x, rest) ≡ Some y → (rest ≡ []) × (x ≡ y)
whole_only x y [] h = (refl, same_Some x y h)
whole_only x y (b ∷ bs) h = absurd (none-some y h)

pub labeled_front : (words : List ℕ) (n : ℕ) (rest : List ℕ) → labeled words n ++ rest ≡ words ++ (decimal n ++ rest)
unfolding labeled
labeled_front words n rest = append_assoc words (decimal n) rest

pub regroup : (a b c d e : List ℕ) → a ++ b ++ c ++ d ++ e ≡ a ++ (b ++ (c ++ (d ++ e)))
regroup a b c d e = simp append_assoc
