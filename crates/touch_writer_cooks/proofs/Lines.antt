-- The line of an event, part by part.
use Rattle.std.specs.Prelude.{◌≡◌, ℕ, zero, suc, ◌+◌, ◌-◌, ◌*◌, ◌<◌, ◌≤◌, ◌==◌, Bool, true, false, not, ◌||◌, List, [], ◌∷◌, ◌++◌, length, take, drop, replicate, if◌then◌else◌, slice_index, Option, Some, None}
use Rattle.std.specs.List.{list_all, prefix_len}
use Rattle.std.specs.Str.{byte}
use Rattle.std.specs.Str.Parse.{AllDigits, digits_value}
use Rattle.std.specs.Int.{cast_signed, w32}
use Rattle.std.proofs.Common.{sym, ◌∙◌, ap, refl, arith}
use Rattle.std.proofs.lemmas.List.{append-nil, length-append, length-replicate}
use Rattle.std.proofs.lemmas.Bool.{and_parts}
use Rattle.raw_events.specs.Text.{◌>>=◌, after_blanks, number_at}
use Rattle.text_lines.specs.Blanks.{is_blank, skip_blanks, ends_in}
use Rattle.raw_events.specs.Line.{Known, moment_at, path_at, fields_of, device_at, sender}
use Rattle.raw_events.specs.Recording.{lines_of, with_front}
use Rattle.touch_writer_cooks.specs.Reading.{is_inside}
use Rattle.touch_writer_cooks.proofs.Digits.{digit_other, number_is, seconds_are, skip_many, skip_digits, take_front, drop_front}

-- type, code and value
abbrev pub told : List ℕ → List ℕ → List ℕ → List ℕ
told kd cd vd = kd ++ 32 ∷ (cd ++ 32 ∷ vd)

-- a line behind its first byte: blanks, seconds, their fraction, a path with its colon, and type, code and value
abbrev pub spelled : ℕ → List ℕ → List ℕ → List ℕ → List ℕ → List ℕ
spelled k sc fr word rest = replicate k 32 ++ (sc ++ 46 ∷ (fr ++ 93 ∷ 32 ∷ (word ++ 32 ∷ rest)))

-- ---- the moment

pub moment_says : (k s f : ℕ) (sc fr r : List ℕ) → 0 < length sc → length sc ≤ 12 → AllDigits 10 sc → digits_value 10 sc ≡ s
    → length fr ≡ 6 → AllDigits 10 fr → digits_value 10 fr ≡ f
    → moment_at (replicate k 32 ++ (sc ++ 46 ∷ (fr ++ 93 ∷ r))) ≡ Some (s * 1000000 + f, r)
unfolding moment_at
moment_says k s f sc fr r some few all is len more is_f =
    rw (
      skip_many k (sc ++ 46 ∷ (fr ++ 93 ∷ r)),
      skip_digits 10 sc (46 ∷ (fr ++ 93 ∷ r)) (omega arith) some all,
      seconds_are s sc (fr ++ 93 ∷ r) some few all is,
      number_is 10 6 f fr (93 ∷ r) len more is_f,
    ) refl

-- ---- the path

last_is : (w : List ℕ) (c : ℕ) → slice_index (w ++ c ∷ []) (length w) ≡ c
last_is [] c = refl
last_is (x ∷ w) c = last_is w c

long_one : (w : List ℕ) (c : ℕ) → length (w ++ c ∷ []) - 1 ≡ length w
long_one w c = omega (arith, length-append w (c ∷ []))

pub ends_by : (w : List ℕ) (c d : ℕ) (b : Bool) → (d == c) ≡ b → ends_in c (w ++ d ∷ []) ≡ b
ends_by w c d b e = ap (λ n. slice_index (w ++ d ∷ []) n == c) (long_one w d) ∙ ap (λ x. x == c) (last_is w d) ∙ e

prefix_all : (word r : List ℕ) → list_all (λ b. not (is_blank b)) word ≡ true → prefix_len (λ b. not (is_blank b)) (word ++ 32 ∷ r) ≡ length word
prefix_all [] r h = refl
prefix_all (b ∷ bs) r h =
    let both = and_parts (not (is_blank b)) (list_all (λ x. not (is_blank x)) bs) h in
    rw both.0 (omega (arith, prefix_all bs r both.1))

all_push : (p : ℕ → Bool) (bs : List ℕ) (c : ℕ) → list_all p bs ≡ true → p c ≡ true → list_all p (bs ++ c ∷ []) ≡ true
all_push p [] c h e = rw e refl
all_push p (b ∷ bs) c h e =
    let both = and_parts (p b) (list_all p bs) h in
    rw both.0 (all_push p bs c both.1 e)

-- a path and what stands behind it, from its word
abbrev shape : ℕ → List ℕ → List ℕ → Option (Option (List ℕ) × List ℕ)
shape len word behind =
    if ends_in (byte ":") word then (after_blanks behind >>= λ rest. Some (Some (take (len - 1) word), rest)) else None

pub path_says : (name r : List ℕ) → list_all (λ b. not (is_blank b)) (47 ∷ name) ≡ true
    → path_at (((47 ∷ name) ++ 58 ∷ []) ++ 32 ∷ r) ≡ Some (Some (47 ∷ name), skip_blanks r)
unfolding path_at
path_says name r h =
    let path : List ℕ = 47 ∷ name in
    let word : List ℕ = path ++ 58 ∷ [] in
    let text : List ℕ = word ++ 32 ∷ r in
    let front : take (length word - 1) word ≡ path = ap (λ n. take n word) (long_one path 58) ∙ take_front path (58 ∷ []) in
    ap (λ n. shape n (take n text) (drop n text)) (prefix_all word r (all_push (λ b. not (is_blank b)) path 58 h refl))
    ∙ ap (λ w. shape (length word) w (drop (length word) text)) (take_front word (32 ∷ r))
    ∙ ap (λ b. shape (length word) word b) (drop_front word (32 ∷ r))
    ∙ ap (λ t. if t then Some (Some (take (length word - 1) word), skip_blanks r) else None) (ends_by path 58 58 true refl)
    ∙ ap (λ q. Some (Some q, skip_blanks r)) front

pub sender_is : (devices : Known) (path : List ℕ) → sender devices (Some path) ≡ device_at devices path
sender_is [] path = refl
sender_is (e ∷ es) path = refl

-- ---- type, code and value

number_last : (base n v : ℕ) (ds : List ℕ) → length ds ≡ n → AllDigits base ds → digits_value base ds ≡ v → number_at base n ds ≡ Some (v, [])
number_last base n v ds len h is = ap (λ xs. number_at base n xs) (sym (append-nil ds)) ∙ number_is base n v ds [] len h is

skip_last : (base : ℕ) (ds : List ℕ) → base ≤ 16 → 0 < length ds → AllDigits base ds → skip_blanks ds ≡ ds
skip_last base ds le some h =
    ap (λ xs. skip_blanks xs) (sym (append-nil ds)) ∙ skip_digits base ds [] le some h ∙ append-nil ds

pub fields_say : (kind code bits : ℕ) (kd cd vd : List ℕ) → length kd ≡ 4 → AllDigits 16 kd → digits_value 16 kd ≡ kind
    → length cd ≡ 4 → AllDigits 16 cd → digits_value 16 cd ≡ code → length vd ≡ 8 → AllDigits 16 vd → digits_value 16 vd ≡ bits
    → fields_of (told kd cd vd) ≡ Some (record { kind = kind; code = code; value = cast_signed w32 bits })
unfolding fields_of
fields_say kind code bits kd cd vd lk ak ik lc ac ic lv av iv =
    rw (
      number_is 16 4 kind kd (32 ∷ (cd ++ 32 ∷ vd)) lk ak ik,
      skip_digits 16 cd (32 ∷ vd) (omega arith) (omega (arith, lc)) ac,
      number_is 16 4 code cd (32 ∷ vd) lc ac ic,
      skip_last 16 vd (omega arith) (omega (arith, lv)) av,
      number_last 16 8 bits vd lv av iv,
    ) refl

-- ---- newlines

-- no byte is a newline
abbrev pub IsOneLine : List ℕ → Type 0
IsOneLine [] = Unit {0}
IsOneLine (b ∷ bs) = ((b == 10) ≡ false) × IsOneLine bs

pub one_line_more : (xs ys : List ℕ) → IsOneLine xs → IsOneLine ys → IsOneLine (xs ++ ys)
one_line_more [] ys h k = k
one_line_more (x ∷ xs) ys h k = (h.0, one_line_more xs ys h.1 k)

pub digits_one_line : (base : ℕ) (ds : List ℕ) → base ≤ 16 → AllDigits base ds → IsOneLine ds
digits_one_line base [] le h = tt
digits_one_line base (d ∷ ds) le h = (digit_other d 10 (omega (arith, h.0, le)) (omega arith), digits_one_line base ds le h.1)

pub blanks_one_line : (k : ℕ) → IsOneLine (replicate k 32)
blanks_one_line zero = tt
blanks_one_line (suc k) = (refl, blanks_one_line k)

inside_at : (a b : Bool) → not (a || b) ≡ true → (not a ≡ true) × (b ≡ false)
inside_at true b h = absurd (cc)
inside_at false true h = absurd (cc)
inside_at false false h = (refl, refl)

pub inside_one_line : (bs : List ℕ) → list_all is_inside bs ≡ true → IsOneLine bs
inside_one_line [] h = tt
inside_one_line (b ∷ bs) h =
    let both = and_parts (is_inside b) (list_all is_inside bs) h in
    ((inside_at (is_blank b) (b == 10) both.0).1, inside_one_line bs both.1)

pub inside_word : (bs : List ℕ) → list_all is_inside bs ≡ true → list_all (λ b. not (is_blank b)) bs ≡ true
inside_word [] h = refl
inside_word (b ∷ bs) h =
    let both = and_parts (is_inside b) (list_all is_inside bs) h in
    rw (inside_at (is_blank b) (b == 10) both.0).0 (inside_word bs both.1)

pub line_more : (text rest : List ℕ) → IsOneLine text → lines_of (text ++ 10 ∷ rest) ≡ text ∷ lines_of rest
line_more [] rest h = refl
line_more (b ∷ bs) rest h = rw h.0 (ap (λ ls. with_front b ls) (line_more bs rest h.1))

-- ---- how long a line is

pub spelled_long : (k : ℕ) (sc fr word kd cd vd : List ℕ) → k ≤ 8 → length sc ≤ 12 → length fr ≡ 6 → length word ≤ 4001 → length kd ≡ 4 → length cd ≡ 4 → length vd ≡ 8
    → length (91 ∷ spelled k sc fr word (told kd cd vd)) ≤ 4096
spelled_long k sc fr word kd cd vd lb ls lf lw lk lc lv =
    let rest : length (told kd cd vd) ≡ 18 =
    omega (arith, length-append kd (32 ∷ (cd ++ 32 ∷ vd)), length-append cd (32 ∷ vd), lk, lc, lv) in
    omega (
      arith,
      length-append (replicate k 32) (sc ++ 46 ∷ (fr ++ 93 ∷ 32 ∷ (word ++ 32 ∷ told kd cd vd))),
      length-replicate {A = ℕ} k 32,
      length-append sc (46 ∷ (fr ++ 93 ∷ 32 ∷ (word ++ 32 ∷ told kd cd vd))),
      length-append fr (93 ∷ 32 ∷ (word ++ 32 ∷ told kd cd vd)),
      length-append word (32 ∷ told kd cd vd),
      rest,
      lb,
      ls,
      lf,
      lw,
    )

pub spelled_one_line : (k : ℕ) (sc fr word kd cd vd : List ℕ) → AllDigits 10 sc → AllDigits 10 fr → IsOneLine word → AllDigits 16 kd → AllDigits 16 cd → AllDigits 16 vd
    → IsOneLine (91 ∷ spelled k sc fr word (told kd cd vd))
spelled_one_line k sc fr word kd cd vd a b w c d e =
    let vs : IsOneLine vd = digits_one_line 16 vd (omega arith) e in
    let cs : IsOneLine (cd ++ 32 ∷ vd) = one_line_more cd (32 ∷ vd) (digits_one_line 16 cd (omega arith) d) (refl, vs) in
    let ks : IsOneLine (told kd cd vd) = one_line_more kd (32 ∷ (cd ++ 32 ∷ vd)) (digits_one_line 16 kd (omega arith) c) (refl, cs) in
    let ws : IsOneLine (word ++ 32 ∷ told kd cd vd) = one_line_more word (32 ∷ told kd cd vd) w (refl, ks) in
    let fs : IsOneLine (fr ++ 93 ∷ 32 ∷ (word ++ 32 ∷ told kd cd vd)) =
    one_line_more fr (93 ∷ 32 ∷ (word ++ 32 ∷ told kd cd vd)) (digits_one_line 10 fr (omega arith) b) (refl, (refl, ws)) in
    let ss : IsOneLine (sc ++ 46 ∷ (fr ++ 93 ∷ 32 ∷ (word ++ 32 ∷ told kd cd vd))) =
    one_line_more sc (46 ∷ (fr ++ 93 ∷ 32 ∷ (word ++ 32 ∷ told kd cd vd))) (digits_one_line 10 sc (omega arith) a) (refl, fs) in
    (refl, one_line_more (replicate k 32) (sc ++ 46 ∷ (fr ++ 93 ∷ 32 ∷ (word ++ 32 ∷ told kd cd vd))) (blanks_one_line k) ss)
