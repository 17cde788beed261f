-- What was read stays read, whatever stands behind it.
use Rattle.std.proofs.Common.{◌≡◌, ℕ, ◌+◌, ◌-◌, ◌*◌, ◌^◌, ◌<◌, ◌≤◌, ◌==◌, ◌||◌, cond, not, suc, List, [], ◌∷◌, ◌++◌, length, take, drop, Option, Some, None, refl, ap, ◌∙◌, arith, Bool, true, false, ltb, ltb-false, le-ltb, eqb-true}
use Rattle.std.specs.Prelude.{option_map, is_some}
use Rattle.std.specs.Char.{is_digit}
use Rattle.std.specs.List.{prefix_len}
use Rattle.std.specs.Str.{byte}
use Rattle.std.proofs.lemmas.List.{take-append-le, drop-append-le, length-append, length-drop, append_assoc}
use Rattle.input_types.specs.declared.number.DeviceId.{DeviceId}
use Rattle.raw_events.specs.declared.line.Fields.{Fields}
use Rattle.raw_events.specs.Text.{◌>>=◌, after_blanks, after_byte, number, number_at}
use Rattle.text_lines.specs.Blanks.{is_blank, skip_blanks, ends_in, word_len}
use Rattle.raw_events.specs.Line.{Known, seconds_at, moment_at, path_at, fields_of, sender, sent, formed, judged_text}
use Rattle.raw_events.specs.Front.{plain, SecondsSay, MicrosSay, PathSays, HeadSays}
use Rattle.raw_events.specs.Recording.{line_len}
use Rattle.raw_events.proofs.Parts.{both_unended}

both : {A B : Type 0} (o : Option A) (f : A → Option B) (y : B) → (o >>= f) ≡ Some y → (x : A) × (o ≡ Some x) × (f x ≡ Some y)
both None f y h = cc
both (Some x) f y h = (x, refl, h)

abbrev pub more : {A : Type 0} → List ℕ → A × List ℕ → A × List ℕ
more r read = (read.0, read.1 ++ r)

-- the numbers of a piece that is long enough
pub number_more : (base len : ℕ) (bs r : List ℕ) (x : ℕ × List ℕ) → number_at base len bs ≡ Some x → number_at base len (bs ++ r) ≡ Some (more r x)
unfolding number_at
number_more base len bs r x h =
    (elim (ltb (length bs) len) as (λ v. ltb (length bs) len ≡ v → cond v None (number base (take len bs) >>= λ n. Some (n, drop len bs)) ≡ Some x
    → cond (ltb (length (bs ++ r)) len) None (number base (take len (bs ++ r)) >>= λ n. Some (n, drop len (bs ++ r))) ≡ Some (more r x)) [
      | true ↦ λ e k. cc
      | false ↦ λ e k.
          let long : len ≤ length bs = ltb-false (length bs) len e in
          let s = both (number base (take len bs)) (λ n. Some (n, drop len bs)) x k in
          rw (le-ltb (length (bs ++ r)) len (omega (arith, length-append bs r)), take-append-le len bs r long, drop-append-le len bs r long, s.1)
          (ap (option_map (more r)) s.2)
    ]) refl h

skip_more : (bs r : List ℕ) → 0 < length (skip_blanks bs) → skip_blanks (bs ++ r) ≡ skip_blanks bs ++ r
skip_more [] r h = absurd (omega arith)
skip_more (b ∷ bs) r h =
    (elim (is_blank b) as (λ v. 0 < length (cond v (skip_blanks bs) (b ∷ bs)) → cond v (skip_blanks (bs ++ r)) (b ∷ (bs ++ r)) ≡ cond v (skip_blanks bs) (b ∷ bs) ++ r)
    [ true ↦ λ k. skip_more bs r k | false ↦ λ k. refl ]) h

skip_all : (bs r : List ℕ) → skip_blanks bs ≡ [] → skip_blanks (bs ++ r) ≡ skip_blanks r
skip_all [] r h = refl
skip_all (b ∷ bs) r h =
    (elim (is_blank b) as (λ v. cond v (skip_blanks bs) (b ∷ bs) ≡ [] → cond v (skip_blanks (bs ++ r)) (b ∷ (bs ++ r)) ≡ skip_blanks r)
    [ true ↦ λ k. skip_all bs r k | false ↦ λ k. cc ]) h

skip_plain : (r : List ℕ) → plain r ≡ true → skip_blanks r ≡ r
skip_plain [] h = refl
skip_plain (b ∷ bs) h =
    (elim (is_blank b) as (λ v. not v ≡ true → cond v (skip_blanks bs) (b ∷ bs) ≡ b ∷ bs) [ true ↦ λ k. cc | false ↦ λ k. refl ]) h

prefix_more : (p : ℕ → Bool) (bs r : List ℕ) → prefix_len p bs < length bs → prefix_len p (bs ++ r) ≡ prefix_len p bs
prefix_more p [] r h = absurd (omega arith)
prefix_more p (b ∷ bs) r h =
    (elim (p b) as (λ v. cond v (1 + prefix_len p bs) 0 < suc (length bs) → cond v (1 + prefix_len p (bs ++ r)) 0 ≡ cond v (1 + prefix_len p bs) 0)
    [ true ↦ λ k. ap (λ n. 1 + n) (prefix_more p bs r (omega arith)) | false ↦ λ k. refl ]) h

byte_more : (c : ℕ) (bs r x : List ℕ) → after_byte c bs ≡ Some x → after_byte c (bs ++ r) ≡ Some (x ++ r)
byte_more c [] r x h = cc
byte_more c (b ∷ bs) r x h =
    (elim (b == c) as (λ v. cond v (Some bs) None ≡ Some x → cond v (Some (bs ++ r)) None ≡ Some (x ++ r))
    [ true ↦ λ k. ap (option_map (λ ys. ys ++ r)) k | false ↦ λ k. cc ]) h

byte_some : (c : ℕ) (bs x : List ℕ) → after_byte c bs ≡ Some x → 0 < length bs
byte_some c [] x h = cc
byte_some c (b ∷ bs) x h = omega arith

number_rest : (base len : ℕ) (bs : List ℕ) (x : ℕ × List ℕ) → number_at base len bs ≡ Some x → x.1 ≡ drop len bs
unfolding number_at
number_rest base len bs x h =
    (elim (ltb (length bs) len) as (λ v. cond v None (number base (take len bs) >>= λ n. Some (n, drop len bs)) ≡ Some x → x.1 ≡ drop len bs)
    [ true ↦ λ k. cc | false ↦ λ k. let s = both (number base (take len bs)) (λ n. Some (n, drop len bs)) x k in cc ]) h

seconds_more : (bs r : List ℕ) (x : ℕ × List ℕ) → seconds_at bs ≡ Some x → 0 < length x.1 → seconds_at (bs ++ r) ≡ Some (more r x)
unfolding seconds_at
seconds_more bs r x h some =
    let len : ℕ = prefix_len (λ b. is_digit b 10) bs in
    (elim (len == 0 || ltb 12 len) as (λ v. (len == 0 || ltb 12 len) ≡ v → cond v None (number_at 10 len bs) ≡ Some x → seconds_at (bs ++ r) ≡ Some (more r x)) [
      | true ↦ λ e k. cc
      | false ↦ λ e k.
          let rest : x.1 ≡ drop len bs = number_rest 10 len bs x k in
          let within : len < length bs = omega (arith, ap length rest, length-drop len bs) in
          rw (prefix_more (λ b. is_digit b 10) bs r within, e) (number_more 10 len bs r x k)
    ]) refl h

seconds_some : (bs : List ℕ) (x : ℕ × List ℕ) → seconds_at bs ≡ Some x → 0 < length bs
unfolding seconds_at
seconds_some [] x h = cc
seconds_some (b ∷ bs) x h = omega arith

byte_is : (c : ℕ) (bs x : List ℕ) → after_byte c bs ≡ Some x → bs ≡ c ∷ x
byte_is c [] x h = cc
byte_is c (b ∷ bs) x h =
    (elim (b == c) as (λ v. (b == c) ≡ v → cond v (Some bs) None ≡ Some x → b ∷ bs ≡ c ∷ x)
    [ true ↦ λ e k. let same : b ≡ c = eqb-true b c e in cc | false ↦ λ e k. cc ]) refl h

pub seconds_are : (front inside point : List ℕ) (seconds : ℕ) → after_byte (byte "[") front ≡ Some inside → seconds_at (skip_blanks inside) ≡ Some (seconds, point)
    → after_byte (byte ".") point ≡ Some [] → seconds < 10 ^ 12 → line_len front ≡ length front → SecondsSay front seconds
unfolding moment_at
seconds_are front inside point seconds h s p few unended = record {
  inside = inside;
  bracket = byte_is (byte "[") front inside h;
  says = λ r.
      rw (
        skip_more inside r (seconds_some (skip_blanks inside) (seconds, point) s),
        seconds_more (skip_blanks inside) r (seconds, point) s (byte_some (byte ".") point [] p),
        byte_more (byte ".") point r [] p,
      )
      refl;
  few = few;
  unended = unended;
}

blanks_more : (bs r x : List ℕ) → after_blanks bs ≡ Some x → 0 < length x → after_blanks (bs ++ r) ≡ Some (x ++ r)
blanks_more [] r x h some = cc
blanks_more (b ∷ bs) r x h some =
    (elim (is_blank b) as (λ v. cond v (Some (skip_blanks bs)) None ≡ Some x → cond v (Some (skip_blanks (bs ++ r))) None ≡ Some (x ++ r)) [
      | true ↦ λ k.
          let is : skip_blanks bs ≡ x = cc in
          rw (skip_more bs r (rw is some)) (ap (λ ys. Some (ys ++ r)) is)
      | false ↦ λ k. cc
    ]) h

blanks_end : (bs r : List ℕ) → after_blanks bs ≡ Some [] → plain r ≡ true → after_blanks (bs ++ r) ≡ Some r
blanks_end [] r h p = cc
blanks_end (b ∷ bs) r h p =
    (elim (is_blank b) as (λ v. cond v (Some (skip_blanks bs)) None ≡ Some [] → cond v (Some (skip_blanks (bs ++ r))) None ≡ Some r) [
      | true ↦ λ k.
          let is : skip_blanks bs ≡ [] = cc in
          ap (λ ys. Some ys) (skip_all bs r is ∙ skip_plain r p)
      | false ↦ λ k. cc
    ]) h

blanks_some : (bs x : List ℕ) → after_blanks bs ≡ Some x → 0 < length bs
blanks_some [] x h = cc
blanks_some (b ∷ bs) x h = omega arith

abbrev Read : Type 0
Read = Option (Option (List ℕ) × List ℕ)

abbrev with_path : ℕ → List ℕ → List ℕ → Read
with_path len word rest = Some (Some (take (len - 1) word), rest)

abbrev no_path : List ℕ → Read
no_path bs = Some (None, bs)

abbrev read : Option (List ℕ) → List ℕ → Read
read path rest = Some (path, rest)

first_of : Option (List ℕ) × List ℕ → Option (List ℕ)
first_of t = t.0

first_same : (a c : Option (List ℕ)) (b d : List ℕ) → read a b ≡ read c d → a ≡ c
unfolding first_of
first_same a c b d h = let e : Some a ≡ Some c = ap (option_map first_of) h in cc

rest_of : Option (List ℕ) × List ℕ → List ℕ
rest_of t = t.1

second_same : (a c : Option (List ℕ)) (b d : List ℕ) → read a b ≡ read c d → b ≡ d
unfolding rest_of
second_same a c b d h = let e : Some b ≡ Some d = ap (option_map rest_of) h in cc

abbrev word_at : List ℕ → ℕ → Read
word_at bs len = cond (ends_in (byte ":") (take len bs)) (after_blanks (drop len bs) >>= with_path len (take len bs)) None

word_more : (bs r : List ℕ) (path : Option (List ℕ)) → word_at bs (word_len bs) ≡ read path [] → plain r ≡ true → word_at (bs ++ r) (word_len (bs ++ r)) ≡ read path r
word_more bs r path h p =
    let len : ℕ = word_len bs in
    (elim (ends_in (byte ":") (take len bs)) as (λ v. ends_in (byte ":") (take len bs) ≡ v → cond v (after_blanks (drop len bs) >>= with_path len (take len bs)) None ≡ read path []
    → word_at (bs ++ r) (word_len (bs ++ r)) ≡ read path r) [
      | false ↦ λ e k. cc
      | true ↦ λ e k.
          let s = both (after_blanks (drop len bs)) (with_path len (take len bs)) (path, []) k in
          let end : s.0 ≡ [] = second_same (Some (take (len - 1) (take len bs))) path s.0 [] s.2 in
          let is : Some (take (len - 1) (take len bs)) ≡ path = first_same (Some (take (len - 1) (take len bs))) path s.0 [] s.2 in
          let blank : 0 < length (drop len bs) = blanks_some (drop len bs) s.0 s.1 in
          let within : len < length bs = omega (arith, length-drop len bs) in
          let at : len ≤ length bs = omega arith in
          rw (prefix_more (λ c. not (is_blank c)) bs r within, take-append-le len bs r at, drop-append-le len bs r at, e, blanks_end (drop len bs) r (rw end at s.1) p)
          (ap (λ q. read q r) is)
    ]) refl h

not_named : (path : Option (List ℕ)) → None ≡ path → is_some path ≡ true → ⊥
not_named None e k = cc
not_named (Some x) e k = cc

path_more : (b : ℕ) (bs r : List ℕ) (path : Option (List ℕ)) → path_at (b ∷ bs) ≡ read path [] → is_some path ≡ true → plain r ≡ true → path_at ((b ∷ bs) ++ r) ≡ read path r
unfolding path_at
path_more b bs r path h some p =
    (elim (b == byte "/") as (λ v. cond v (word_at (b ∷ bs) (word_len (b ∷ bs))) (no_path (b ∷ bs)) ≡ read path []
    → cond v (word_at ((b ∷ bs) ++ r) (word_len ((b ∷ bs) ++ r))) (no_path ((b ∷ bs) ++ r)) ≡ read path r) [
      | false ↦ λ k. absurd (not_named path (first_same None path (b ∷ bs) [] k) some)
      | true ↦ λ k. word_more (b ∷ bs) r path k p
    ]) h

pub part_is : (devices : Known) (part inside : List ℕ) (path : Option (List ℕ)) (device : Option DeviceId) → after_blanks part ≡ Some inside → path_at inside ≡ Some (path, []) → is_some path ≡ true
    → sender devices path ≡ device → line_len part ≡ length part → PathSays devices part device
unfolding path_at
part_is devices part [] path device h k some s unended = absurd (not_named path (first_same None path [] [] k) some)
part_is devices part (b ∷ bs) path device h k some s unended = record {
  path = path;
  inside = b ∷ bs;
  blanks = λ r. blanks_more part r (b ∷ bs) h (omega arith);
  says = λ r p. path_more b bs r path k some p;
  sent = s;
  unended = unended;
}

pub line_says : (devices : Known) (to_point digits part text : List ℕ) (seconds micros : ℕ) (device : Option DeviceId) (fields : Fields) → SecondsSay to_point seconds → MicrosSay digits micros
    → PathSays devices part device → plain text ≡ true → fields_of text ≡ Some fields
    → judged_text devices (to_point ++ (digits ++ (part ++ text))) ≡ sent device (seconds * 1000000 + micros) fields
unfolding judged_text formed
line_says devices to_point digits part text seconds micros device fields t m p k h =
    rw (t.bracket, t.says (digits ++ (part ++ text)), m seconds (part ++ text), p.blanks text, p.says text k, h, p.sent) refl

-- both parts of a front with the microseconds between them
module _ (devices : Known) (to_point digits part : List ℕ) (seconds micros : ℕ) (device : Option DeviceId) where
  parts_says : SecondsSay to_point seconds → MicrosSay digits micros → PathSays devices part device → (end : List ℕ) (fields : Fields) → plain end ≡ true → fields_of end ≡ Some fields
      → judged_text devices ((to_point ++ (digits ++ part)) ++ end) ≡ sent device (seconds * 1000000 + micros) fields
  parts_says t m p end fields k h =
      ap (judged_text devices) (append_assoc to_point (digits ++ part) end ∙ ap (λ rest. to_point ++ rest) (append_assoc digits part end))
      ∙ line_says devices to_point digits part end seconds micros device fields t m p k h

  pub head_says : (head : List ℕ) → head ≡ to_point ++ (digits ++ part) → SecondsSay to_point seconds → MicrosSay digits micros → PathSays devices part device → line_len digits ≡ length digits
      → length head < 4078 → HeadSays devices head device (seconds * 1000000 + micros)
  head_says head is t m p d short = record {
    inside = t.inside ++ (digits ++ part);
    bracket = is ∙ ap (λ front. front ++ (digits ++ part)) t.bracket;
    says = λ end fields k h. ap (λ front. judged_text devices (front ++ end)) is ∙ parts_says t m p end fields k h;
    unended = rw is (both_unended to_point (digits ++ part) t.unended (both_unended digits part d p.unended));
    short = short;
  }
