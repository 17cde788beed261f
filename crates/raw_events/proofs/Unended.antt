-- Lines that are written as usual have no newline and no carriage return.
use Rattle.std.proofs.Common.{◌≡◌, ℕ, ◌+◌, ◌-◌, ◌<◌, ◌==◌, List, [], ◌∷◌, ◌++◌, length, take, get_or, Some, refl, ap, sym, ◌∙◌, arith, true, false, eqb-true, le-ltb}
use Rattle.std.specs.Prelude.{slice_index}
use Rattle.std.specs.Char.{is_digit}
use Rattle.std.specs.List.{list_all}
use Rattle.std.proofs.lemmas.Bool.{and_parts}
use Rattle.std.proofs.lemmas.List.{length-append, get_or-append-add, append-nil}
use Rattle.std.proofs.Math.Seq.{take-append_seam, get_or-append_seam}
use Rattle.text_lines.specs.Blanks.{skip_blanks, ends_in}
use Rattle.raw_events.specs.Text.{number}
use Rattle.raw_events.specs.declared.line.Line.{Line}
use Rattle.raw_events.specs.Line.{Known, without_return, judged, judged_text}
use Rattle.raw_events.specs.Recording.{line_len}
use Rattle.raw_events.proofs.Fields.{number_some}
use Rattle.raw_events.specs.Pieces.{parts}
use Rattle.raw_events.specs.Kept.{TakesLine}
use Rattle.raw_events.proofs.Parts.{parts_kept, both_unended}

-- a digit is not a byte that is none
digit_is_not : (base c b : ℕ) → is_digit c base ≡ false → is_digit b base ≡ true → (b == c) ≡ false
digit_is_not base c b none h =
    (elim (b == c) as (λ v. (b == c) ≡ v → v ≡ false) [
      | false ↦ λ e. refl
      | true ↦ λ e. let is : b ≡ c = eqb-true b c e in let k : is_digit c base ≡ true = rw is at h in sym k ∙ none
    ]) refl

one_more : (b : ℕ) (bs : List ℕ) → (b == 10) ≡ false → line_len bs ≡ length bs → line_len (b ∷ bs) ≡ length (b ∷ bs)
one_more b bs other h = rw (other) (omega (arith, h))

-- digits have no newline
digits_unended : (base : ℕ) → is_digit 10 base ≡ false → (ds : List ℕ) → list_all (λ b. is_digit b base) ds ≡ true → line_len ds ≡ length ds
digits_unended base none [] h = refl
digits_unended base none (b ∷ bs) h =
    let s = and_parts (is_digit b base) (list_all (λ b. is_digit b base) bs) h in
    one_more b bs (digit_is_not base 10 b none s.0) (digits_unended base none bs s.1)

hex_unended : (ds : List ℕ) (n : ℕ) → number 16 ds ≡ Some n → line_len ds ≡ length ds
hex_unended ds n h = digits_unended 16 refl ds (number_some 16 ds n h).0

decimal_unended : (ds : List ℕ) (n : ℕ) → number 10 ds ≡ Some n → line_len ds ≡ length ds
decimal_unended ds n h = digits_unended 10 refl ds (number_some 10 ds n h).0

-- six digits and the second bracket
pub micros_unended : (xs : List ℕ) (high low : ℕ) → length xs ≡ 7 → slice_index xs 6 ≡ 93 → number 10 (slice_index xs 0 ∷ slice_index xs 1 ∷ slice_index xs 2 ∷ []) ≡ Some high
    → number 10 (slice_index xs 3 ∷ slice_index xs 4 ∷ slice_index xs 5 ∷ []) ≡ Some low → line_len xs ≡ length xs
micros_unended (a ∷ b ∷ c ∷ d ∷ e ∷ f ∷ g ∷ []) high low len bracket p q =
    both_unended (a ∷ b ∷ c ∷ []) (d ∷ e ∷ f ∷ g ∷ []) (decimal_unended (a ∷ b ∷ c ∷ []) high p)
    (both_unended (d ∷ e ∷ f ∷ []) (g ∷ []) (decimal_unended (d ∷ e ∷ f ∷ []) low q) (rw bracket refl))
micros_unended xs high low len bracket p q = absurd (omega (arith, len))

-- type, code and value
pub usual_unended : (xs : List ℕ) (kind code high low : ℕ) → length xs ≡ 18 → slice_index xs 4 ≡ 32 → slice_index xs 9 ≡ 32
    → number 16 (slice_index xs 0 ∷ slice_index xs 1 ∷ slice_index xs 2 ∷ slice_index xs 3 ∷ []) ≡ Some kind
    → number 16 (slice_index xs 5 ∷ slice_index xs 6 ∷ slice_index xs 7 ∷ slice_index xs 8 ∷ []) ≡ Some code
    → number 16 (slice_index xs 10 ∷ slice_index xs 11 ∷ slice_index xs 12 ∷ slice_index xs 13 ∷ []) ≡ Some high
    → number 16 (slice_index xs 14 ∷ slice_index xs 15 ∷ slice_index xs 16 ∷ slice_index xs 17 ∷ []) ≡ Some low
    → line_len xs ≡ length xs
usual_unended (a ∷ b ∷ c ∷ d ∷ x ∷ e ∷ f ∷ g ∷ h ∷ y ∷ i ∷ j ∷ k ∷ l ∷ m ∷ n ∷ o ∷ p ∷ []) kind code high low len s t u v w z =
    both_unended (a ∷ b ∷ c ∷ d ∷ []) (x ∷ e ∷ f ∷ g ∷ h ∷ y ∷ i ∷ j ∷ k ∷ l ∷ m ∷ n ∷ o ∷ p ∷ []) (hex_unended (a ∷ b ∷ c ∷ d ∷ []) kind u)
    (both_unended (x ∷ []) (e ∷ f ∷ g ∷ h ∷ y ∷ i ∷ j ∷ k ∷ l ∷ m ∷ n ∷ o ∷ p ∷ []) (rw s refl)
    (both_unended (e ∷ f ∷ g ∷ h ∷ []) (y ∷ i ∷ j ∷ k ∷ l ∷ m ∷ n ∷ o ∷ p ∷ []) (hex_unended (e ∷ f ∷ g ∷ h ∷ []) code v)
    (both_unended (y ∷ []) (i ∷ j ∷ k ∷ l ∷ m ∷ n ∷ o ∷ p ∷ []) (rw t refl)
    (both_unended (i ∷ j ∷ k ∷ l ∷ []) (m ∷ n ∷ o ∷ p ∷ []) (hex_unended (i ∷ j ∷ k ∷ l ∷ []) high w) (hex_unended (m ∷ n ∷ o ∷ p ∷ []) low z)))))
usual_unended xs kind code high low len s t u v w z = absurd (omega (arith, len))

-- the last byte is a digit
pub usual_last : (xs : List ℕ) (low : ℕ) → length xs ≡ 18 → number 16 (slice_index xs 14 ∷ slice_index xs 15 ∷ slice_index xs 16 ∷ slice_index xs 17 ∷ []) ≡ Some low → ends_in 13 xs ≡ false
usual_last (a ∷ b ∷ c ∷ d ∷ x ∷ e ∷ f ∷ g ∷ h ∷ y ∷ i ∷ j ∷ k ∷ l ∷ m ∷ n ∷ o ∷ p ∷ []) low len z =
    let four = (number_some 16 (m ∷ n ∷ o ∷ p ∷ []) low z).0 in
    let three = (and_parts (is_digit m 16) (list_all (λ b. is_digit b 16) (n ∷ o ∷ p ∷ [])) four).1 in
    let two = (and_parts (is_digit n 16) (list_all (λ b. is_digit b 16) (o ∷ p ∷ [])) three).1 in
    let one = (and_parts (is_digit o 16) (list_all (λ b. is_digit b 16) (p ∷ [])) two).1 in
    digit_is_not 16 13 p refl (and_parts (is_digit p 16) true one).0
usual_last xs low len z = absurd (omega (arith, len))

ends_back : (c : ℕ) (xs ys : List ℕ) → 0 < length ys → ends_in c (xs ++ ys) ≡ ends_in c ys
ends_back c xs ys some =
    let at : length (xs ++ ys) - 1 ≡ length xs + (length ys - 1) = omega (arith, length-append xs ys, some) in
    ap (λ b. b == c) (ap (λ i. get_or (xs ++ ys) i 0) at ∙ get_or-append-add xs ys (length ys - 1) 0)

-- a line that begins with a bracket and ends with a digit has no blanks in front, and no carriage return
pub text_whole : (head end inside : List ℕ) → head ≡ 91 ∷ inside → 0 < length end → ends_in 13 end ≡ false
    → (without_return (head ++ end) ≡ head ++ end) × (skip_blanks (head ++ end) ≡ head ++ end)
text_whole head end inside bracket some other =
    let last : ends_in 13 (head ++ end) ≡ false = ends_back 13 head end some ∙ other in
    (rw last refl, rw bracket refl)

-- the bytes of a line as it stands in the recording, and what they say
judged_whole : (devices : Known) (text : List ℕ) → length text < 4096 → without_return text ≡ text → skip_blanks text ≡ text → judged devices text ≡ judged_text devices text
unfolding judged
judged_whole devices text short kept plain = rw (le-ltb 4096 (length text) (omega arith)) (ap (judged_text devices) (ap skip_blanks kept ∙ plain))

return_last : (text : List ℕ) → without_return (text ++ 13 ∷ []) ≡ text
return_last text =
    let at : length (text ++ 13 ∷ []) - 1 ≡ length text = omega (arith, length-append text (13 ∷ [])) in
    let last : ends_in 13 (text ++ 13 ∷ []) ≡ true = ap (λ b. b == 13) (ap (λ i. get_or (text ++ 13 ∷ []) i 0) at ∙ get_or-append_seam text 13 [] 0) in
    rw last (ap (λ i. take i (text ++ 13 ∷ [])) at ∙ take-append_seam text (13 ∷ []))

judged_return : (devices : Known) (text : List ℕ) → length text < 4096 → skip_blanks text ≡ text → judged devices (text ++ 13 ∷ []) ≡ judged_text devices text
unfolding judged
judged_return devices text short plain =
    rw (le-ltb 4096 (length (text ++ 13 ∷ [])) (omega (arith, length-append text (13 ∷ [])))) (ap (judged_text devices) (ap skip_blanks (return_last text) ∙ plain))

-- a line in front of its newline
pub takes : (devices : Known) (bytes text after : List ℕ) (line : Line) → bytes ≡ text ++ 10 ∷ after → length text < 4096 → line_len text ≡ length text
    → (without_return text ≡ text) × (skip_blanks text ≡ text) → line ≡ judged_text devices text → TakesLine devices bytes line after
takes devices bytes text after line is short unended whole says = record {
  text = text;
  cut = rw is (parts_kept text (10 ∷ after) unended ∙ ap (λ l. record { ended = l ∷ (parts after).ended; begun = (parts after).begun }) (append-nil text));
  says = says ∙ sym (judged_whole devices text short whole.0 whole.1);
  shorter = omega (arith, ap length is, length-append text (10 ∷ after));
}

-- a line in front of a carriage return and its newline
pub takes_return : (devices : Known) (bytes text after : List ℕ) (line : Line) → bytes ≡ text ++ 13 ∷ 10 ∷ after → length text < 4096 → line_len text ≡ length text
    → (without_return text ≡ text) × (skip_blanks text ≡ text) → line ≡ judged_text devices text → TakesLine devices bytes line after
takes_return devices bytes text after line is short unended whole says = record {
  text = text ++ 13 ∷ [];
  cut = rw is (parts_kept text (13 ∷ 10 ∷ after) unended);
  says = says ∙ sym (judged_return devices text short whole.1);
  shorter = omega (arith, ap length is, length-append text (13 ∷ 10 ∷ after));
}

-- a line as a search cut it
pub takes_cut : (devices : Known) (bytes text after : List ℕ) (line : Line) → parts bytes ≡ record { ended = text ∷ (parts after).ended; begun = (parts after).begun }
    → length after < length bytes → line ≡ judged devices text → TakesLine devices bytes line after
takes_cut devices bytes text after line cut shorter says = record { text = text; cut = cut; says = says; shorter = shorter }
