-- Where the path stands in the line of an event: behind the first `]`.
use Rattle.std.proofs.Common.{◌≡◌, ℕ, zero, suc, ◌+◌, ◌-◌, ◌*◌, ◌≤◌, ◌==◌, cond, not, Bool, true, false, List, [], ◌∷◌, length, take, drop, Option, Some, None, Ok, refl, ap, sym, subst, ◌∙◌, arith, ltb}
use Rattle.std.specs.Prelude.{◌||◌, ◌&&◌, is_some}
use Rattle.std.specs.Char.{is_digit}
use Rattle.std.specs.List.{prefix_len, list_all}
use Rattle.std.specs.Str.{byte}
use Rattle.std.specs.Str.Parse.{digits_value}
use Rattle.std.proofs.lemmas.Bool.{eqb-true}
use Rattle.text_lines.specs.Blanks.{is_blank, skip_blanks, word_len, ends_in}
use Rattle.raw_events.specs.Text.{◌>>=◌, after_blanks, after_byte, number, number_at}
use Rattle.raw_events.specs.Line.{Known, seconds_at, moment_at, path_at, fields_of, sender, sent, formed, or_bad}
use Rattle.raw_events.specs.Recording.{with_line}
use Rattle.recording_counts.specs.Cut.{behind_bracket}
use Rattle.recording_counts.specs.Lines.{path_in, passes, IsRead}

pub both : {A B : Type 0} (o : Option A) (f : A → Option B) (y : B) → (o >>= f) ≡ Some y → (x : A) × (o ≡ Some x) × (f x ≡ Some y)
both None f y h = cc
both (Some x) f y h = (x, refl, h)

-- a byte that is no bracket
other_byte : (b : ℕ) (bs : List ℕ) → (b == 93) ≡ false → behind_bracket (b ∷ bs) ≡ behind_bracket bs
other_byte b bs h =
    let more : 1 + prefix_len (λ c. not (c == 93)) bs + 1 ≡ suc (prefix_len (λ c. not (c == 93)) bs + 1) = omega arith in
    rw (h, more) refl

blank_is : (b : ℕ) (t : Bool) → (b == 93) ≡ t → is_blank b ≡ true → t ≡ false
blank_is b false e h = refl
blank_is b true e h = let is : b ≡ 93 = eqb-true b 93 e in absurd (let f : is_blank 93 ≡ true = subst (λ n. is_blank n ≡ true) is h in cc)

digit_is : (b : ℕ) (t : Bool) → (b == 93) ≡ t → is_digit b 10 ≡ true → t ≡ false
digit_is b false e h = refl
digit_is b true e h = let is : b ≡ 93 = eqb-true b 93 e in absurd (let f : is_digit 93 10 ≡ true = subst (λ n. is_digit n 10 ≡ true) is h in cc)

-- blanks in front
past_blanks : (bs : List ℕ) → behind_bracket (skip_blanks bs) ≡ behind_bracket bs
past_blanks [] = refl
past_blanks (b ∷ bs) =
    (elim (is_blank b) as (λ v. is_blank b ≡ v → behind_bracket (cond v (skip_blanks bs) (b ∷ bs)) ≡ behind_bracket (b ∷ bs)) [
      | true ↦ λ h. past_blanks bs ∙ sym (other_byte b bs (blank_is b (b == 93) refl h))
      | false ↦ λ h. refl
    ]) refl

and_first : (a b : Bool) → (a && b) ≡ true → a ≡ true
and_first true b h = refl
and_first false b h = h

and_second : (a b : Bool) → (a && b) ≡ true → b ≡ true
and_second true b h = h
and_second false b h = cc

-- digits in front
past_digits : (len : ℕ) (bs : List ℕ) → list_all (λ b. is_digit b 10) (take len bs) ≡ true → behind_bracket (drop len bs) ≡ behind_bracket bs
past_digits zero bs h = refl
past_digits (suc len) [] h = refl
past_digits (suc len) (b ∷ bs) h =
    past_digits len bs (and_second (is_digit b 10) (list_all (λ b. is_digit b 10) (take len bs)) h)
    ∙ sym (other_byte b bs (digit_is b (b == 93) refl (and_first (is_digit b 10) (list_all (λ b. is_digit b 10) (take len bs)) h)))

all_digits : (len : ℕ) (bs : List ℕ) (n : ℕ) → number 10 (take len bs) ≡ Some n → list_all (λ b. is_digit b 10) (take len bs) ≡ true
all_digits len bs n h =
    (elim (list_all (λ b. is_digit b 10) (take len bs)) as (λ v. cond v (Some (digits_value 10 (take len bs))) None ≡ Some n → v ≡ true) [ true ↦ λ k. refl | false ↦ λ k. cc ]) h

pub past_number : (len : ℕ) (bs : List ℕ) (x : ℕ × List ℕ) → number_at 10 len bs ≡ Some x → behind_bracket x.1 ≡ behind_bracket bs
unfolding number_at
past_number len bs x h =
    (elim (ltb (length bs) len) as (λ v. cond v None (number 10 (take len bs) >>= λ n. Some (n, drop len bs)) ≡ Some x → behind_bracket x.1 ≡ behind_bracket bs) [
      | true ↦ λ k. cc
      | false ↦ λ k.
          let s = both (number 10 (take len bs)) (λ n. Some (n, drop len bs)) x k in
          let rest : x.1 ≡ drop len bs = let same : (s.0, drop len bs) ≡ x = cc in sym (ap (λ (y : ℕ × List ℕ). y.1) same) in
          ap behind_bracket rest ∙ past_digits len bs (all_digits len bs s.0 s.1)
    ]) h

pub past_seconds : (bs : List ℕ) (x : ℕ × List ℕ) → seconds_at bs ≡ Some x → behind_bracket x.1 ≡ behind_bracket bs
unfolding seconds_at
past_seconds bs x h =
    let len : ℕ = prefix_len (λ b. is_digit b 10) bs in
    (elim (len == 0 || ltb 12 len) as (λ v. cond v None (number_at 10 len bs) ≡ Some x → behind_bracket x.1 ≡ behind_bracket bs)
    [ true ↦ λ k. cc | false ↦ λ k. past_number len bs x k ]) h

past_byte : (c : ℕ) (bs x : List ℕ) → (c == 93) ≡ false → after_byte c bs ≡ Some x → behind_bracket x ≡ behind_bracket bs
past_byte c [] x o h = cc
past_byte c (b ∷ bs) x o h =
    (elim (b == c) as (λ v. (b == c) ≡ v → cond v (Some bs) None ≡ Some x → behind_bracket x ≡ behind_bracket (b ∷ bs)) [
      | true ↦ λ e k.
          let is : b ≡ c = eqb-true b c e in
          let rest : bs ≡ x = cc in
          ap behind_bracket (sym rest) ∙ sym (other_byte b bs (ap (λ n. n == 93) is ∙ o))
      | false ↦ λ e k. cc
    ]) refl h

the_bracket : (bs x : List ℕ) → after_byte 93 bs ≡ Some x → x ≡ behind_bracket bs
the_bracket [] x h = cc
the_bracket (b ∷ bs) x h =
    (elim (b == 93) as (λ v. cond v (Some bs) None ≡ Some x → x ≡ drop (cond (not v) (1 + prefix_len (λ c. not (c == 93)) bs) 0 + 1) (b ∷ bs))
    [ true ↦ λ k. let rest : bs ≡ x = cc in sym rest | false ↦ λ k. cc ]) h

-- what stands behind the moment stands behind the first bracket
pub behind_moment : (bs : List ℕ) (x : ℕ × List ℕ) → moment_at bs ≡ Some x → x.1 ≡ behind_bracket bs
unfolding moment_at
behind_moment bs x h =
    let s = both (seconds_at (skip_blanks bs)) _ x h in
    let p = both (after_byte (byte ".") s.0.1) _ x s.2 in
    let f = both (number_at 10 6 p.0) _ x p.2 in
    let q = both (after_byte (byte "]") (skip_blanks f.0.1)) _ x f.2 in
    let rest : q.0 ≡ x.1 = let same : (s.0.0 * 1000000 + f.0.0, q.0) ≡ x = cc in ap (λ (y : ℕ × List ℕ). y.1) same in
    sym rest ∙ the_bracket (skip_blanks f.0.1) q.0 q.1 ∙ past_blanks f.0.1 ∙ past_number 6 p.0 f.0 f.1
    ∙ past_byte 46 s.0.1 p.0 refl p.1 ∙ past_seconds (skip_blanks bs) s.0 s.1 ∙ past_blanks bs

-- what stands behind at least one blank
pub behind_blanks : (bs x : List ℕ) → after_blanks bs ≡ Some x → x ≡ skip_blanks bs
behind_blanks [] x h = cc
behind_blanks (b ∷ bs) x h =
    (elim (is_blank b) as (λ v. cond v (Some (skip_blanks bs)) None ≡ Some x → x ≡ cond v (skip_blanks bs) (b ∷ bs))
    [ true ↦ λ k. let same : skip_blanks bs ≡ x = cc in sym same | false ↦ λ k. cc ]) h

-- a Some is told by a test
pub some_of : {A : Type 0} (o : Option A) → is_some o ≡ true → (x : A) × (o ≡ Some x)
some_of None h = cc
some_of (Some x) h = (x, refl)

named_in : (bs : List ℕ) (m : ℕ × List ℕ) (r : List ℕ) (p : Option (List ℕ) × List ℕ) → moment_at bs ≡ Some m → after_blanks m.1 ≡ Some r → path_at r ≡ Some p → path_in bs ≡ p.0
named_in bs m r p a b c = rw (a, b, c) refl

passes_at : (devices : Known) (bs : List ℕ) (m : ℕ × List ℕ) (r : List ℕ) (p : Option (List ℕ) × List ℕ) → moment_at bs ≡ Some m → after_blanks m.1 ≡ Some r → path_at r ≡ Some p → is_some (fields_of p.1) ≡ true
    → passes (with_line (or_bad (formed devices bs)) 1 (Ok [])) ≡ not (is_some (sender devices (path_in bs)))
unfolding formed
passes_at devices bs m r p a b c d =
    rw (a, b, c)
    ((elim (fields_of p.1) as (λ v. is_some v ≡ true → passes (with_line (or_bad (v >>= λ fields. Some (sent (sender devices p.0) m.0 fields))) 1 (Ok [])) ≡ not (is_some (sender devices p.0))) [
      | None ↦ λ k. cc
      | Some f ↦ λ k. elim (sender devices p.0) as (λ s. passes (with_line (sent s m.0 f) 1 (Ok [])) ≡ not (is_some s)) [ None ↦ refl | Some d ↦ refl ]
    ]) d)

is_there : {A : Type 0} (o : Option A) (x : A) → o ≡ Some x → is_some o ≡ true
is_there o x h = ap is_some h

-- the parts of a line that has the form of an event
formed_parts : (devices : Known) (bs : List ℕ) → is_some (formed devices bs) ≡ true
    → (m : ℕ × List ℕ) × (r : List ℕ) × (p : Option (List ℕ) × List ℕ) × (moment_at bs ≡ Some m) × (after_blanks m.1 ≡ Some r) × (path_at r ≡ Some p) × (is_some (fields_of p.1) ≡ true)
unfolding formed
formed_parts devices bs h =
    let y = some_of (formed devices bs) h in
    let m = both (moment_at bs) _ y.0 y.1 in
    let r = both (after_blanks m.0.1) _ y.0 m.2 in
    let p = both (path_at r.0) _ y.0 r.2 in
    let f = both (fields_of p.0.1) _ y.0 p.2 in
    (m.0, r.0, p.0, m.1, r.1, p.1, is_there (fields_of p.0.1) f.0 f.1)

-- the path of a line that has the form of an event stands behind the first bracket
pub formed_path : (devices : Known) (bs : List ℕ) → is_some (formed devices bs) ≡ true
    → (p : Option (List ℕ) × List ℕ) × (path_at (skip_blanks (behind_bracket bs)) ≡ Some p) × (path_in bs ≡ p.0)
formed_path devices bs h =
    let (m, r, p, a, b, c, d) = formed_parts devices bs h in
    let at : r ≡ skip_blanks (behind_bracket bs) = behind_blanks m.1 r b ∙ ap skip_blanks (behind_moment bs m a) in
    (p, subst (λ (xs : List ℕ). path_at xs ≡ Some p) at c, named_in bs m r p a b c)

-- such a line is passed over exactly where nobody of the session sent it
pub formed_passes : (devices : Known) (bs : List ℕ) → is_some (formed devices bs) ≡ true
    → passes (with_line (or_bad (formed devices bs)) 1 (Ok [])) ≡ not (is_some (sender devices (path_in bs)))
formed_passes devices bs h =
    let (m, r, p, a, b, c, d) = formed_parts devices bs h in
    passes_at devices bs m r p a b c d

-- a line that is read and begins as that of an event has the form of one
pub read_formed : (devices : Known) (bs : List ℕ) → IsRead (with_line (or_bad (formed devices bs)) 1 (Ok [])) → is_some (formed devices bs) ≡ true
read_formed devices bs h =
    (elim (formed devices bs) as (λ v. IsRead (with_line (or_bad v) 1 (Ok [])) → is_some v ≡ true) [ None ↦ λ k. absurd k | Some line ↦ λ k. refl ]) h

take_within : (i n : ℕ) (xs : List ℕ) → i ≤ n → take i (take n xs) ≡ take i xs
take_within zero n xs h = refl
take_within (suc i) zero xs h = absurd (omega arith)
take_within (suc i) (suc n) [] h = refl
take_within (suc i) (suc n) (x ∷ xs) h = ap (λ ys. x ∷ ys) (take_within i n xs (omega arith))

-- where nothing stands, or something else than a path, none is named
pub no_path : (p : Option (List ℕ) × List ℕ) → path_at [] ≡ Some p → None ≡ p.0
unfolding path_at
no_path p h = let same : (None, []) ≡ p = cc in ap (λ (q : Option (List ℕ) × List ℕ). q.0) same

second : {A : Type 0} (t : Bool) (x y z : A) → t ≡ false → cond t x y ≡ z → y ≡ z
second true x y z e h = cc
second false x y z e h = h

pub other_path : (b : ℕ) (bs : List ℕ) (p : Option (List ℕ) × List ℕ) → (b == 47) ≡ false → path_at (b ∷ bs) ≡ Some p → None ≡ p.0
unfolding path_at
other_path b bs p o h =
    let told : Some (None, b ∷ bs) ≡ Some p = second (b == 47) _ (Some (None, b ∷ bs)) (Some p) o h in
    let same : (None, b ∷ bs) ≡ p = cc in
    ap (λ (q : Option (List ℕ) × List ℕ). q.0) same

-- a path is the word without its last byte
pub slash_path : (b : ℕ) (bs : List ℕ) (p : Option (List ℕ) × List ℕ) → (b == 47) ≡ true → path_at (b ∷ bs) ≡ Some p → Some (take (word_len (b ∷ bs) - 1) (b ∷ bs)) ≡ p.0
unfolding path_at
slash_path b bs p o h =
    let len : ℕ = word_len (b ∷ bs) in
    let word : List ℕ = take len (b ∷ bs) in
    let named : Option (Option (List ℕ) × List ℕ) = after_blanks (drop len (b ∷ bs)) >>= λ rest. Some (Some (take (len - 1) word), rest) in
    let told : cond (ends_in 58 word) named None ≡ Some p = subst (λ (v : Bool). cond v (cond (ends_in 58 word) named None) (Some (None, b ∷ bs)) ≡ Some p) o h in
    (elim (ends_in 58 word) as (λ v. cond v named None ≡ Some p → Some (take (len - 1) (b ∷ bs)) ≡ p.0) [
      | true ↦ λ k.
          let r = both (after_blanks (drop len (b ∷ bs))) (λ rest. Some (Some (take (len - 1) word), rest)) p k in
          let same : (Some (take (len - 1) word), r.0) ≡ p = cc in
          ap (λ ys. Some ys) (sym (take_within (len - 1) len (b ∷ bs) (omega arith))) ∙ ap (λ (q : Option (List ℕ) × List ℕ). q.0) same
      | false ↦ λ k. cc
    ]) told
