-- The lines of a stream file: what is spelled is read again, and nothing else is read.
use Rattle.std.proofs.Common.{◌≡◌, ℕ, ◌-◌, ◌^◌, ◌<◌, ◌≤◌, Bool, cond, List, [], ◌∷◌, ◌++◌, length, Option, Some, None, IfSome, true, false, refl, sym, ap, ◌∙◌, subst, arith, inl, inr}
use Rattle.std.specs.Prelude.{codes}
use Rattle.std.specs.Fmt.{decimal}
use Rattle.std.proofs.Math.Dec.{eqb}
use Rattle.std.proofs.lemmas.Bool.Decides.{nat_tests}
use Rattle.std.proofs.lemmas.List.{append_assoc, append-nil}
use Rattle.std.proofs.lemmas.Option.{same_Some, cond_some}
use Rattle.std.proofs.lemmas.Fmt.{decimal_is_IsNumeral}
use Rattle.std.proofs.lemmas.Str.{digit_value_digit}
use Rattle.std.proofs.lemmas.Str.Parse.{digit_from_value}
use Rattle.std.specs.Str.Parse.{AllDigits}
use Rattle.input_types.specs.declared.message.Message.{Message as Told}
use Rattle.stream_text.specs.declared.stream_line.StreamLine.{StreamLine}
use Rattle.stream_text.specs.declared.stream_line.StreamLine.TheVariants.{Channel, Message, End, Anr}
use Rattle.stream_text.specs.Number.{◌>>=◌, after, number_at, NoDigit}
use Rattle.stream_text.specs.Spelling.{body, labeled, numbered}
use Rattle.stream_text.specs.MessageLine.{labeled_at, message_of, message_words, HasSpelling}
use Rattle.stream_text.specs.StreamLine.{CanSay, channel_at, channel_of, channel_words, end_of, end_words, is_name, line_of, anr_of, anr_words, IsId, SpellsLine}
use Rattle.stream_text.proofs.Numbers.{after_only, bind_some, number_again, number_only}
use Rattle.stream_text.proofs.PartTexts.{by_word, labeled_again, labeled_front, labeled_only, none_of, not_zero, regroup, whole_only}
use Rattle.stream_text.proofs.MessageTexts.{message_again, message_only}

channel_again : (n : ℕ) (rest : List ℕ) → IsId n → NoDigit rest → channel_at (decimal n ++ rest) ≡ Some (n, rest)
unfolding channel_at
channel_again n rest h stop = rw (number_again 64 n rest h.1 (omega arith) stop, not_zero n h.0) refl

channel_only : (bs : List ℕ) (read : ℕ × List ℕ) → channel_at bs ≡ Some read → (bs ≡ decimal read.0 ++ read.1) × IsId read.0
unfolding channel_at
channel_only bs read h =
    let (n, found, made) = bind_some (number_at 64 bs) _ read h in
    let (other, same) = none_of (eqb n.0 0) n read made in
    let (split, small) = number_only 64 n.0 bs n.1 (omega arith) found in
    let Spelled : ℕ × List ℕ → Type 0 = λ r. (bs ≡ decimal r.0 ++ r.1) × IsId r.0 in
    subst Spelled same (split, (grind (arith, nat_tests), small))

-- the first line of a section
first_words : (id : ℕ) (name : List ℕ) → channel_words id name ≡ codes "channel " ++ (decimal id ++ (codes " " ++ name))
unfolding channel_words
first_words id name = simp append_assoc

first_again : (id : ℕ) (name : List ℕ) → IsId id → is_name name ≡ true → line_of (channel_words id name) ≡ Some (Channel id)
unfolding line_of channel_of
first_again id name h n = rw (first_words id name, channel_again id (codes " " ++ name) h refl, n) refl

first_only : (bs : List ℕ) (line : StreamLine) → channel_of bs ≡ Some line → SpellsLine (codes "channel " ++ bs) line
unfolding channel_of
first_only bs line h =
    let (id, found_id, h1) = bind_some (channel_at bs) _ line h in
    let (name, found_space, h2) = bind_some (after (codes " ") id.1) _ line h1 in
    let (is, same) = cond_some (is_name name) (Channel id.0) line h2 in
    let (split, fits) = channel_only bs id found_id in
    subst (SpellsLine (codes "channel " ++ bs)) same (
      name,
      ap (λ t. codes "channel " ++ t) (split ∙ ap (λ t. decimal id.0 ++ t) (after_only (codes " ") id.1 name found_space)) ∙ sym (first_words id.0 name),
      fits,
      is,
    )

-- the last line of a section
last_words : (id sent received finished : ℕ)
    → end_words id sent received finished ≡ codes "end " ++ (decimal id ++ (codes " sent " ++ (decimal sent ++ (codes " received " ++ (decimal received ++ (codes " finished " ++ (decimal finished ++ [])))))))
unfolding end_words
last_words id sent received finished =
    sym (append-nil (labeled (codes "end ") id ++ labeled (codes " sent ") sent ++ labeled (codes " received ") received ++ labeled (codes " finished ") finished))
    ∙ regroup (labeled (codes "end ") id) (labeled (codes " sent ") sent) (labeled (codes " received ") received) (labeled (codes " finished ") finished) []
    ∙ labeled_front (codes "end ") id (labeled (codes " sent ") sent ++ (labeled (codes " received ") received ++ (labeled (codes " finished ") finished ++ [])))
    ∙ ap (λ t. codes "end " ++ (decimal id ++ t))
    (labeled_front (codes " sent ") sent (labeled (codes " received ") received ++ (labeled (codes " finished ") finished ++ []))
    ∙ ap (λ t. codes " sent " ++ (decimal sent ++ t))
    (labeled_front (codes " received ") received (labeled (codes " finished ") finished ++ []) ∙ ap (λ t. codes " received " ++ (decimal received ++ t)) (labeled_front (codes " finished ") finished [])))

last_again : (id sent received finished : ℕ) → IsId id → sent < 2 ^ 64 → received < 2 ^ 64 → finished < 2 ^ 64
    → line_of (end_words id sent received finished) ≡ Some (End id sent received finished)
unfolding line_of end_of
last_again id sent received finished h s r f =
    rw (last_words id sent received finished, channel_again id (codes " sent " ++ (decimal sent ++ (codes " received " ++ (decimal received ++ (codes " finished " ++ (decimal finished ++ [])))))) h refl, labeled_again (codes " sent ") (2 ^ 64 - 1) sent (codes " received " ++ (decimal received ++ (codes " finished " ++ (decimal finished ++ [])))) (omega arith) (omega arith) refl, labeled_again (codes " received ") (2 ^ 64 - 1) received (codes " finished " ++ (decimal finished ++ [])) (omega arith) (omega arith) refl, labeled_again (codes " finished ") (2 ^ 64 - 1) finished [] (omega arith) (omega arith) tt) refl

last_only : (bs : List ℕ) (line : StreamLine) → end_of bs ≡ Some line → SpellsLine (codes "end " ++ bs) line
unfolding end_of
last_only bs line h =
    let (id, found_id, h1) = bind_some (channel_at bs) _ line h in
    let (sent, found_sent, h2) = bind_some (labeled_at (codes " sent ") (2 ^ 64 - 1) id.1) _ line h1 in
    let (received, found_received, h3) = bind_some (labeled_at (codes " received ") (2 ^ 64 - 1) sent.1) _ line h2 in
    let (finished, found_finished, h4) = bind_some (labeled_at (codes " finished ") (2 ^ 64 - 1) received.1) _ line h3 in
    let (nothing, same) = whole_only (End id.0 sent.0 received.0 finished.0) line finished.1 h4 in
    let (split_id, fits) = channel_only bs id found_id in
    let (split_sent, s) = labeled_only (codes " sent ") (2 ^ 64 - 1) id.1 sent (omega arith) found_sent in
    let (split_received, r) = labeled_only (codes " received ") (2 ^ 64 - 1) sent.1 received (omega arith) found_received in
    let (split_finished, f) = labeled_only (codes " finished ") (2 ^ 64 - 1) received.1 finished (omega arith) found_finished in
    subst (SpellsLine (codes "end " ++ bs)) same (
      ap (λ t. codes "end " ++ t)
          (split_id
          ∙ ap (λ t. decimal id.0 ++ t)
          (split_sent
          ∙ ap (λ t. codes " sent " ++ (decimal sent.0 ++ t))
          (split_received ∙ ap (λ t. codes " received " ++ (decimal received.0 ++ t)) (split_finished ∙ ap (λ t. codes " finished " ++ (decimal finished.0 ++ t)) nothing))))
          ∙ sym (last_words id.0 sent.0 received.0 finished.0),
      fits,
      omega (arith, s),
      omega (arith, r),
      omega (arith, f),
    )

regroup_three : (a b c d : List ℕ) → a ++ b ++ c ++ d ≡ a ++ (b ++ (c ++ d))
regroup_three a b c d = simp append_assoc

-- an ANR
name_words : (clock id seq : ℕ) → anr_words clock id seq ≡ codes "anr " ++ (decimal clock ++ (codes " " ++ (decimal id ++ (codes " " ++ (decimal seq ++ [])))))
unfolding anr_words
name_words clock id seq =
    sym (append-nil (labeled (codes "anr ") clock ++ labeled (codes " ") id ++ labeled (codes " ") seq))
    ∙ regroup_three (labeled (codes "anr ") clock) (labeled (codes " ") id) (labeled (codes " ") seq) []
    ∙ labeled_front (codes "anr ") clock (labeled (codes " ") id ++ (labeled (codes " ") seq ++ []))
    ∙ ap (λ t. codes "anr " ++ (decimal clock ++ t))
    (labeled_front (codes " ") id (labeled (codes " ") seq ++ []) ∙ ap (λ t. codes " " ++ (decimal id ++ t)) (labeled_front (codes " ") seq []))

name_again : (clock id seq : ℕ) → clock ≤ 1000000000000000000 → IsId id → seq < 2 ^ 64 → line_of (anr_words clock id seq) ≡ Some (Anr clock id seq)
unfolding line_of anr_of
name_again clock id seq c h s =
    rw (name_words clock id seq, number_again 1000000000000000000 clock (codes " " ++ (decimal id ++ (codes " " ++ (decimal seq ++ [])))) c (omega arith) refl, channel_again id (codes " " ++ (decimal seq ++ [])) h refl, labeled_again (codes " ") (2 ^ 64 - 1) seq [] (omega arith) (omega arith) tt) refl

name_only : (bs : List ℕ) (line : StreamLine) → anr_of bs ≡ Some line → SpellsLine (codes "anr " ++ bs) line
unfolding anr_of
name_only bs line h =
    let (clock, found_clock, h1) = bind_some (number_at 1000000000000000000 bs) _ line h in
    let (to_id, found_space, h2) = bind_some (after (codes " ") clock.1) _ line h1 in
    let (id, found_id, h3) = bind_some (channel_at to_id) _ line h2 in
    let (seq, found_seq, h4) = bind_some (labeled_at (codes " ") (2 ^ 64 - 1) id.1) _ line h3 in
    let (nothing, same) = whole_only (Anr clock.0 id.0 seq.0) line seq.1 h4 in
    let (split_clock, c) = number_only 1000000000000000000 clock.0 bs clock.1 (omega arith) found_clock in
    let (split_id, fits) = channel_only to_id id found_id in
    let (split_seq, s) = labeled_only (codes " ") (2 ^ 64 - 1) id.1 seq (omega arith) found_seq in
    subst (SpellsLine (codes "anr " ++ bs)) same (
      ap (λ t. codes "anr " ++ t)
          (split_clock
          ∙ ap (λ t. decimal clock.0 ++ t)
          (after_only (codes " ") clock.1 to_id found_space
          ∙ ap (λ t. codes " " ++ t) (split_id ∙ ap (λ t. decimal id.0 ++ t) (split_seq ∙ ap (λ t. codes " " ++ (decimal seq.0 ++ t)) nothing))))
          ∙ sym (name_words clock.0 id.0 seq.0),
      c,
      fits,
      omega (arith, s),
    )

-- a message: its line begins with a digit, and so with no word
other_word : (word ds rest : List ℕ) → 0 < length ds → AllDigits 10 ds → (w : ℕ) (ws : List ℕ) → word ≡ w ∷ ws → 58 ≤ w → after word (ds ++ rest) ≡ None
other_word word [] rest l h w ws e m = absurd (omega arith)
other_word word (d ∷ ds) rest l h w ws e m =
    let small : d < 58 = omega (arith, digit_value_digit d (digit_from_value d h.0), h.0) in
    let other : eqb d w ≡ false = grind (arith, nat_tests) in
    rw (e, other) refl

no_word : (word : List ℕ) (n : ℕ) (rest : List ℕ) → n < 2 ^ 64 → (w : ℕ) (ws : List ℕ) → word ≡ w ∷ ws → 58 ≤ w → after word (decimal n ++ rest) ≡ None
no_word word n rest small w ws e m =
    let (numeral, value) = decimal_is_IsNumeral n small in
    other_word word (decimal n) rest numeral.0 numeral.1 w ws e m

sent_words : (m : Told) → message_words m ≡ decimal m.seq ++ (codes " " ++ (decimal m.moment ++ (codes " " ++ body m.body)))
unfolding message_words numbered
sent_words m = simp append_assoc

sent_again : (m : Told) → HasSpelling m → line_of (message_words m) ≡ Some (Message m)
unfolding line_of
sent_again m h =
    let rest = codes " " ++ (decimal m.moment ++ (codes " " ++ body m.body)) in
    let channel : after (codes "channel ") (message_words m) ≡ None = ap (after (codes "channel ")) (sent_words m) ∙ no_word (codes "channel ") m.seq rest h.seq 99 (codes "hannel ") refl (omega arith) in
    let end : after (codes "end ") (message_words m) ≡ None = ap (after (codes "end ")) (sent_words m) ∙ no_word (codes "end ") m.seq rest h.seq 101 (codes "nd ") refl (omega arith) in
    let anr : after (codes "anr ") (message_words m) ≡ None = ap (after (codes "anr ")) (sent_words m) ∙ no_word (codes "anr ") m.seq rest h.seq 97 (codes "nr ") refl (omega arith) in
    rw (channel, end, anr, message_again m h) refl

sent_only : (bs : List ℕ) (line : StreamLine) → (message_of bs >>= λ m. Some (Message m)) ≡ Some line → SpellsLine bs line
sent_only bs line h =
    let (m, read, made) = bind_some (message_of bs) _ line h in
    subst (SpellsLine bs) (same_Some (Message m) line made) (message_only bs m read)

-- a line that is spelled is read again
pub line_again : (bs : List ℕ) (line : StreamLine) → SpellsLine bs line → line_of bs ≡ Some line
line_again bs (Channel id) h = ap line_of h.1 ∙ first_again id h.0 h.2 h.3
line_again bs (Message m) h = ap line_of h.0 ∙ sent_again m h.1
line_again bs (End id sent received finished) h = ap line_of h.0 ∙ last_again id sent received finished h.1 h.2 h.3 h.4
line_again bs (Anr clock id seq) h = ap line_of h.0 ∙ name_again clock id seq h.1 h.2 h.3

at_word : (word rest bs : List ℕ) (line : StreamLine) → after word bs ≡ Some rest → SpellsLine (word ++ rest) line → SpellsLine bs line
at_word word rest bs line found h = let P : List ℕ → Type 0 = λ t. SpellsLine t line in subst P (sym (after_only word bs rest found)) h

-- nothing but a line that is spelled is read
pub line_only : (bs : List ℕ) (line : StreamLine) → line_of bs ≡ Some line → SpellsLine bs line
unfolding line_of
line_only bs line h =
    elim (by_word (after (codes "channel ") bs) _ _ line h) [
      | inl w ↦ at_word (codes "channel ") w.0 bs line w.1 (first_only w.0 line w.2)
      | inr h1 ↦ elim (by_word (after (codes "end ") bs) _ _ line h1) [
        | inl w ↦ at_word (codes "end ") w.0 bs line w.1 (last_only w.0 line w.2)
        | inr h2 ↦ elim (by_word (after (codes "anr ") bs) _ _ line h2) [
          | inl w ↦ at_word (codes "anr ") w.0 bs line w.1 (name_only w.0 line w.2)
          | inr h3 ↦ sent_only bs line h3
        ]
      ]
    ]

-- what is spelled can be said
pub can_say : (bs : List ℕ) (line : StreamLine) → SpellsLine bs line → CanSay line
can_say bs (Channel id) h = h.2
can_say bs (Message m) h = h.1
can_say bs (End id sent received finished) h = tt
can_say bs (Anr clock id seq) h = tt

-- the same of a line that was read into a place
pub can_say_where : (bs : List ℕ) (line : StreamLine) (read : Bool) → read ≡ true → cond read (Some line) None ≡ line_of bs → CanSay line
can_say_where bs line read is h = can_say bs line (line_only bs line (sym (rw is at h)))

-- what holds anyway holds where there is something
pub if_there : {A : Type 0} {P : Type 0} (o : Option A) → P → IfSome o (λ _. P)
if_there None p = tt
if_there (Some x) p = p
