-- The lines of events are read as these events.
use Rattle.std.specs.Prelude.{◌≡◌, ℕ, ◌+◌, ◌-◌, ◌*◌, ◌/◌, ◌%◌, ◌<◌, ◌≤◌, true, false, not, List, [], ◌∷◌, ◌++◌, length, replicate, decimal, Some, Ok, ℤ, pos, negsuc}
use Rattle.std.specs.List.{list_all}
use Rattle.std.specs.Str.Parse.{AllDigits}
use Rattle.std.specs.Int.{cast_signed, cast_unsigned, w32}
use Rattle.std.specs.Int.RustNames.{FitsSigned}
use Rattle.std.proofs.Common.{sym, ◌∙◌, ap, refl, arith, append_assoc, to_z-of_z}
use Rattle.std.proofs.lemmas.Bool.{le-ltb}
use Rattle.std.proofs.lemmas.List.{length-append}
use Rattle.std.proofs.lemmas.Fmt.{decimal_is_IsNumeral, length-decimal-le}
use Rattle.raw_events.specs.declared.event.RawEvent.{RawEvent}
use Rattle.text_lines.specs.Blanks.{is_blank, skip_blanks, ends_in}
use Rattle.raw_events.specs.Line.{Known, moment_at, path_at, fields_of, sent, formed, judged_text, judged}
use Rattle.raw_events.specs.Recording.{lines_of, events_from, next_number, with_line, recorded}
use Rattle.touch_writer.specs.EventText.{digit, digits, in_eight, stamp, fields, event_line}
use Rattle.touch_writer_cooks.specs.Reading.{ReadingLaw, IsPath, IsEventOf, AreEventsOf, lines}
use Rattle.touch_writer_cooks.proofs.Digits.{digits_long, digits_all, digits_are, digit_is, digit_other, HasDigits, skip_digits}
use Rattle.touch_writer_cooks.proofs.Lines.{told, spelled, moment_says, path_says, sender_is, fields_say, ends_by, IsOneLine, one_line_more, inside_one_line, inside_word, line_more, spelled_long, spelled_one_line}

-- the parts of a line of an event
module _ (e : RawEvent) where
  abbrev secs : List ℕ
  secs = decimal (e.moment / 1000000)

  abbrev frac : List ℕ
  frac = digits 10 6 (e.moment % 1000000)

  abbrev kind_of : List ℕ
  kind_of = digits 16 4 e.kind

  abbrev code_of : List ℕ
  code_of = digits 16 4 e.code

  abbrev value_of : List ℕ
  value_of = digits 16 8 (cast_unsigned w32 e.value)

  abbrev rest_of : List ℕ
  rest_of = told kind_of code_of value_of

-- the text of a line, without its newline
abbrev text_of : List ℕ → RawEvent → List ℕ
text_of path e = 91 ∷ spelled (8 - length (secs e)) (secs e) (frac e) (path ++ 58 ∷ []) (rest_of e)

regroup : (bl sc fr p kd cd vd rest : List ℕ)
    → ((((((91 ∷ []) ++ (bl ++ sc) ++ (46 ∷ []) ++ fr ++ (93 ∷ 32 ∷ [])) ++ p) ++ (58 ∷ 32 ∷ [])) ++ (kd ++ (32 ∷ []) ++ cd ++ (32 ∷ []) ++ vd)) ++ (10 ∷ [])) ++ rest
    ≡ (91 ∷ (bl ++ (sc ++ 46 ∷ (fr ++ 93 ∷ 32 ∷ ((p ++ 58 ∷ []) ++ 32 ∷ (kd ++ 32 ∷ (cd ++ 32 ∷ vd))))))) ++ 10 ∷ rest
regroup bl sc fr p kd cd vd rest = simp append_assoc refl

line_is : (path rest : List ℕ) (e : RawEvent) → event_line path e ++ rest ≡ text_of path e ++ 10 ∷ rest
unfolding event_line stamp fields in_eight
line_is path rest e = regroup (replicate (8 - length (secs e)) 32) (secs e) (frac e) path (kind_of e) (code_of e) (value_of e) rest

-- ---- the numbers of a line

ten_rest : (y : ℕ) → y % 10 < 10
ten_rest y = omega arith

ten_whole : (y : ℕ) → y / 10 * 10 + y % 10 ≡ y
ten_whole y = omega arith

hex_rest : (y : ℕ) → y % 16 < 16
hex_rest y = omega arith

hex_whole : (y : ℕ) → y / 16 * 16 + y % 16 ≡ y
hex_whole y = omega arith

six : (x : ℕ) → x < 1000000 → HasDigits 10 6 x
six x lt = omega (arith, lt)

four : (x : ℕ) → x < 65536 → HasDigits 16 4 x
four x lt = omega (arith, lt)

eight : (x : ℕ) → x < 4294967296 → HasDigits 16 8 x
eight x lt = omega (arith, lt)

bits_fit : (z : ℤ) → FitsSigned w32 z → cast_unsigned w32 z < 4294967296
bits_fit (pos n) h = omega (arith, h.sfits)
bits_fit (negsuc n) h = omega (arith, h.sfits)

-- ---- the end of a line is no carriage return

end_regroup : (bl sc fr w kd cd v d : List ℕ) → 91 ∷ (bl ++ (sc ++ 46 ∷ (fr ++ 93 ∷ 32 ∷ (w ++ 32 ∷ (kd ++ 32 ∷ (cd ++ 32 ∷ (v ++ d)))))))
    ≡ (91 ∷ (bl ++ (sc ++ 46 ∷ (fr ++ 93 ∷ 32 ∷ (w ++ 32 ∷ (kd ++ 32 ∷ (cd ++ 32 ∷ v))))))) ++ d
end_regroup bl sc fr w kd cd v d = simp append_assoc refl

no_return : (path : List ℕ) (e : RawEvent) → ends_in 13 (text_of path e) ≡ false
unfolding digits
no_return path e =
    let x : ℕ = cast_unsigned w32 e.value in
    let d : ℕ = digit (x % 16) in
    let front : List ℕ = 91 ∷ spelled (8 - length (secs e)) (secs e) (frac e) (path ++ 58 ∷ []) (told (kind_of e) (code_of e) (digits 16 7 (x / 16))) in
    ap (λ bs. ends_in 13 bs)
    (end_regroup (replicate (8 - length (secs e)) 32) (secs e) (frac e) (path ++ 58 ∷ []) (kind_of e) (code_of e) (digits 16 7 (x / 16)) (d ∷ []))
    ∙ ends_by front 13 d false (digit_other d 13 (omega (arith, digit_is (x % 16) (hex_rest x), hex_rest x)) (omega arith))

-- ---- one line

one_judged : (devices : Known) (path name : List ℕ) (e : RawEvent) → IsPath path name → IsEventOf devices path e → judged devices (text_of path e) ≡ sent (Some e.device) e.moment (record { kind = e.kind; code = e.code; value = e.value })
unfolding judged judged_text formed
one_judged devices path name e p h =
    let s : ℕ = e.moment / 1000000 in
    let f : ℕ = e.moment % 1000000 in
    let x : ℕ = cast_unsigned w32 e.value in
    let word : List ℕ = path ++ 58 ∷ [] in
    let numeral = decimal_is_IsNumeral s (omega (arith, h.moment)) in
    let few : length (secs e) ≤ 12 = length-decimal-le 12 s (omega arith) (omega (arith, h.moment)) (omega (arith, h.moment)) in
    let all_f : AllDigits 10 (frac e) = digits_all 10 6 f (omega arith) ten_rest in
    let all_k : AllDigits 16 (kind_of e) = digits_all 16 4 e.kind (omega arith) hex_rest in
    let all_c : AllDigits 16 (code_of e) = digits_all 16 4 e.code (omega arith) hex_rest in
    let all_v : AllDigits 16 (value_of e) = digits_all 16 8 x (omega arith) hex_rest in
    let long_k : length (kind_of e) ≡ 4 = digits_long 16 4 e.kind in
    let long : length (text_of path e) ≤ 4096 =
    spelled_long (8 - length (secs e)) (secs e) (frac e) word (kind_of e) (code_of e) (value_of e) (omega arith) few (digits_long 10 6 f)
    (omega (arith, length-append path (58 ∷ []), p.short)) long_k (digits_long 16 4 e.code) (digits_long 16 8 x) in
    let moment : moment_at (spelled (8 - length (secs e)) (secs e) (frac e) word (rest_of e)) ≡ Some (s * 1000000 + f, 32 ∷ (word ++ 32 ∷ rest_of e)) =
    moment_says (8 - length (secs e)) s f (secs e) (frac e) (32 ∷ (word ++ 32 ∷ rest_of e)) numeral.0.0 few numeral.0.1 numeral.1
    (digits_long 10 6 f) all_f (digits_are 10 6 f (omega arith) ten_rest ten_whole (six f (omega arith))) in
    let start : skip_blanks (word ++ 32 ∷ rest_of e) ≡ word ++ 32 ∷ rest_of e = ap (λ q. skip_blanks ((q ++ 58 ∷ []) ++ 32 ∷ rest_of e)) p.begins ∙ sym (ap (λ q. (q ++ 58 ∷ []) ++ 32 ∷ rest_of e) p.begins) in
    let behind : skip_blanks (rest_of e) ≡ rest_of e = skip_digits 16 (kind_of e) (32 ∷ (code_of e ++ 32 ∷ value_of e)) (omega arith) (omega (arith, long_k)) all_k in
    let words : list_all (λ b. not (is_blank b)) (47 ∷ name) ≡ true = ap (λ q. list_all (λ b. not (is_blank b)) q) (sym p.begins) ∙ inside_word path p.inside in
    let at_path : path_at (word ++ 32 ∷ rest_of e) ≡ Some (Some path, rest_of e) =
    ap (λ q. path_at ((q ++ 58 ∷ []) ++ 32 ∷ rest_of e)) p.begins
    ∙ path_says name (rest_of e) words
    ∙ ap (λ q. Some (Some q, skip_blanks (rest_of e))) (sym p.begins)
    ∙ ap (λ r. Some (Some path, r)) behind in
    let says : fields_of (rest_of e) ≡ Some (record { kind = e.kind; code = e.code; value = cast_signed w32 x }) =
    fields_say e.kind e.code x (kind_of e) (code_of e) (value_of e) long_k all_k
    (digits_are 16 4 e.kind (omega arith) hex_rest hex_whole (four e.kind h.kind))
    (digits_long 16 4 e.code) all_c (digits_are 16 4 e.code (omega arith) hex_rest hex_whole (four e.code h.code))
    (digits_long 16 8 x) all_v (digits_are 16 8 x (omega arith) hex_rest hex_whole (eight x (bits_fit e.value h.value))) in
    let sum : s * 1000000 + f ≡ e.moment = omega arith in
    rw (
      le-ltb 4096 (length (text_of path e)) long,
      no_return path e,
      moment,
      start,
      at_path,
      says,
      sender_is devices path,
      h.device,
    ) (ap (λ m. sent (Some e.device) m (record { kind = e.kind; code = e.code; value = cast_signed w32 x })) sum
    ∙ ap (λ v. sent (Some e.device) e.moment (record { kind = e.kind; code = e.code; value = v })) (to_z-of_z h.value))

text_one_line : (path name : List ℕ) (e : RawEvent) → IsPath path name → e.moment < 1000000000000000000 → IsOneLine (text_of path e)
text_one_line path name e p lt =
    let numeral = decimal_is_IsNumeral (e.moment / 1000000) (omega (arith, lt)) in
    spelled_one_line (8 - length (secs e)) (secs e) (frac e) (path ++ 58 ∷ []) (kind_of e) (code_of e) (value_of e) numeral.0.1
    (digits_all 10 6 (e.moment % 1000000) (omega arith) ten_rest)
    (one_line_more path (58 ∷ []) (inside_one_line path p.inside) (refl, tt))
    (digits_all 16 4 e.kind (omega arith) hex_rest) (digits_all 16 4 e.code (omega arith) hex_rest)
    (digits_all 16 8 (cast_unsigned w32 e.value) (omega arith) hex_rest)

all_read : (devices : Known) (path name : List ℕ) (n : ℕ) (es : List RawEvent) → IsPath path name → AreEventsOf devices path es
    → events_from devices n (lines_of (lines path es)) ≡ Ok es
all_read devices path name n [] p h = refl
all_read devices path name n (e ∷ es) p h =
    ap (λ bs. events_from devices n (lines_of bs)) (line_is path (lines path es) e)
    ∙ ap (λ ls. events_from devices n ls) (line_more (text_of path e) (lines path es) (text_one_line path name e p h.0.moment))
    ∙ ap (λ l. with_line l n (events_from devices (next_number n) (lines_of (lines path es)))) (one_judged devices path name e p h.0)
    ∙ ap (λ r. with_line (sent (Some e.device) e.moment (record { kind = e.kind; code = e.code; value = e.value })) n r) (all_read devices path name (next_number n) es p h.1)

pub reading : ReadingLaw
unfolding recorded
reading devices path name events p h = all_read devices path name 1 events p h
