-- A stream file that is judged line by line is judged as its streams are.
use Rattle.std.proofs.Common.{◌≡◌, ℕ, suc, ◌+◌, ◌<◌, ◌==◌, ◌&&◌, Bool, true, false, if◌then◌else◌, List, [], ◌∷◌, ◌++◌, length, Option, Some, None, Result, Ok, Err, refl, sym, ap, ◌∙◌, arith, append_assoc}
use Rattle.std.proofs.lemmas.Bool.{eqb-true}
use Rattle.std.specs.Option.{option_map, option_or}
use Rattle.input_types.specs.declared.message.Message.{Message as Told}
use Rattle.gesture_verifier.specs.declared.reason.Reason.{Reason}
use Rattle.stream_judge.specs.Breaks.{past_from}
use Rattle.stream_judge.specs.Placed.{ArePlaced, Places}
use Rattle.stream_judge.specs.Sections.{messages_at, messages_in, messages_left, sections_at, sections_left, sent_after}
use Rattle.stream_judge.proofs.Placed.{placed_of}
use Rattle.stream_judge.proofs.Sections.{or_again}
use Rattle.stream_text.specs.declared.stream_line.StreamLine.{StreamLine}
use Rattle.stream_text.specs.declared.stream_line.StreamLine.TheVariants.{Channel, Message, End, Anr}
use Rattle.stream_text.specs.declared.reading.stream_lines.Place.{Place}
use Rattle.stream_text.specs.declared.reading.stream_lines.Place.TheVariants.{Between, Section, Anrs}
use Rattle.stream_text.specs.StreamFile.{Event, Goes, Unread, events_of, follow, messages_of, streams_in, streams_of, with_event}
use Rattle.judge_text.specs.Broken.{broken_from, first_broken, reason_behind}
use Rattle.judge_text.specs.Down.{Down, down_after}
use Rattle.judge_text.specs.Judged.{answer, first_left_down, judged, judged_streams, something, whole_line, whole_lines}
use Rattle.judge_text.specs.Judging.{Known, Takes, broken_at, broken_left, down_at, down_left, judged_on, lines_at, lines_left}

-- What lines from line n on say of their streams, behind these messages of the section that is open.
record Ties (past : List Told) (es : List Event) (broken : Option (ℕ × Reason)) (down : Option (ℕ × Down)) (messages : ℕ) (lines : List ℕ) : Type 0 where
  broken_is : broken_left past es ≡ broken
  down_is : down_left past es ≡ down
  sections_are : sections_left es ≡ length (streams_of es)
  messages_are : messages_left es ≡ messages
  lines_are : lines_left es ≡ lines

abbrev Outside : List Told → List Event → Type 0
Outside past es = Ties past es (first_broken (streams_of es)) (first_left_down (streams_of es)) (messages_in (streams_of es)) (whole_lines (streams_of es))

abbrev Inside : ℕ → ℕ → List Told → ℕ → List Event → Type 0
Inside id count past n es =
    Ties past es (option_or (broken_from n past (messages_of es)) (first_broken (streams_of es)))
    (option_or (something (n + length (messages_of es)) (down_after (past_from past (messages_of es)))) (first_left_down (streams_of es)))
    (length (messages_of es) + messages_in (streams_of es))
    (whole_line id (count + length (messages_of es)) ++ whole_lines (streams_of es))

abbrev TiesAt : Place → List Told → ℕ → List Event → Type 0
TiesAt Between past n es = Outside past es
TiesAt (Section id count) past n es = Inside id count past n es
TiesAt Anrs past n es = Outside past es

-- the lines behind one are tied
abbrev Behind : ℕ → List Event → Type 0
Behind n es = (next : Place) (past : List Told) → ArePlaced next (n + 1) es → TiesAt next past (n + 1) es

begins : (past : List Told) (n id : ℕ) (es : List Event) → Inside id 0 [] (n + 1) es → Outside past ((n, Channel id) ∷ es)
begins past n id es h = record {
  broken_is = h.broken_is;
  down_is = h.down_is;
  sections_are = omega (arith, h.sections_are);
  messages_are = omega (arith, h.messages_are);
  lines_are =
      let k : 0 + length (messages_of es) ≡ length (messages_of es) = omega arith in
      h.lines_are ∙ ap (λ c. whole_line id c ++ whole_lines (streams_of es)) k;
}

names : (past : List Told) (n clock id seq : ℕ) (es : List Event) → Outside past es → Outside past ((n, Anr clock id seq) ∷ es)
names past n clock id seq es h = record {
  broken_is = h.broken_is;
  down_is = h.down_is;
  sections_are = omega (arith, h.sections_are);
  messages_are = omega (arith, h.messages_are);
  lines_are = h.lines_are;
}

sends : (id count : ℕ) (past : List Told) (n : ℕ) (m : Told) (es : List Event) → Inside id (count + 1) (m ∷ past) (n + 1) es → Inside id count past n ((n, Message m) ∷ es)
sends id count past n m es h = record {
  broken_is =
      ap (option_or (option_map (λ why. (n, why)) (reason_behind past m))) h.broken_is
      ∙ sym (or_again (option_map (λ why. (n, why)) (reason_behind past m)) (broken_from (n + 1) (m ∷ past) (messages_of es)) (first_broken (streams_of es)));
  down_is =
      let k : n + 1 + length (messages_of es) ≡ n + suc (length (messages_of es)) = omega arith in
      h.down_is ∙ ap (λ l. option_or (something l (down_after (past_from (m ∷ past) (messages_of es)))) (first_left_down (streams_of es))) k;
  sections_are = omega (arith, h.sections_are);
  messages_are = omega (arith, h.messages_are);
  lines_are =
      let k : count + 1 + length (messages_of es) ≡ count + suc (length (messages_of es)) = omega arith in
      h.lines_are ∙ ap (λ c. whole_line id c ++ whole_lines (streams_of es)) k;
}

ends : (id count : ℕ) (past : List Told) (n e sent received finished : ℕ) (es : List Event) → e ≡ id → sent ≡ count → Outside past es
    → Inside id count past n ((n, End e sent received finished) ∷ es)
ends id count past n e sent received finished es same all h = record {
  broken_is = h.broken_is;
  down_is =
      let k : n ≡ n + 0 = omega arith in
      ap (option_or (something n (down_after past))) h.down_is
      ∙ ap (λ l. option_or (something l (down_after past)) (first_left_down (streams_of es))) k;
  sections_are = omega (arith, h.sections_are);
  messages_are = omega (arith, h.messages_are);
  lines_are =
      let k : sent ≡ count + 0 = omega (arith, all) in
      ap (λ ls. whole_line e sent ++ ls) h.lines_are ∙ ap (λ c. whole_line e c ++ whole_lines (streams_of es)) k ∙ ap (λ i. whole_line i (count + 0) ++ whole_lines (streams_of es)) same;
}

-- which place follows
sent_next : (id count : ℕ) (b : Bool) (next : Place) → (if b then Some (Section id (count + 1)) else None) ≡ Some next → Section id (count + 1) ≡ next
sent_next id count true next h = cc
sent_next id count false next h = absurd (cc)

ended_next : (b : Bool) (next : Place) → (if b then Some Between else None) ≡ Some next → (Between ≡ next) × (b ≡ true)
ended_next true next h = (cc, refl)
ended_next false next h = absurd (cc)

both : (a b : Bool) → (a && b) ≡ true → (a ≡ true) × (b ≡ true)
both true b h = (refl, h)
both false b h = absurd (cc)

step : (place : Place) (past : List Told) (n : ℕ) (says : StreamLine) (es : List Event) (next : Place) → follow place says ≡ Some next → ArePlaced next (n + 1) es
    → Behind n es → TiesAt place past n ((n, says) ∷ es)
step Between past n (Channel id) es next f p behind = let same : Section id 0 ≡ next = cc in begins past n id es (behind (Section id 0) [] (rw same p))
step Between past n (Message m) es next f p behind = absurd (cc)
step Between past n (End e sent received finished) es next f p behind = absurd (cc)
step Between past n (Anr clock id seq) es next f p behind = let same : Anrs ≡ next = cc in names past n clock id seq es (behind Anrs past (rw same p))
step (Section id count) past n (Channel other) es next f p behind = absurd (cc)
step (Section id count) past n (Message m) es next f p behind =
    let same = sent_next id count (m.seq == count + 1) next f in sends id count past n m es (behind (Section id (count + 1)) (m ∷ past) (rw same p))
step (Section id count) past n (End e sent received finished) es next f p behind =
    let (same, ended) = ended_next ((e == id) && (sent == count)) next f in
    let (i, k) = both (e == id) (sent == count) ended in
    ends id count past n e sent received finished es (eqb-true e id i) (eqb-true sent count k) (behind Between past (rw same p))
step (Section id count) past n (Anr clock other seq) es next f p behind = absurd (cc)
step Anrs past n (Channel id) es next f p behind = absurd (cc)
step Anrs past n (Message m) es next f p behind = absurd (cc)
step Anrs past n (End e sent received finished) es next f p behind = absurd (cc)
step Anrs past n (Anr clock id seq) es next f p behind = let same : Anrs ≡ next = cc in names past n clock id seq es (behind Anrs past (rw same p))

no_lines : (place : Place) (past : List Told) (n : ℕ) → ArePlaced place n [] → TiesAt place past n []
no_lines Between past n p = record { broken_is = refl; down_is = refl; sections_are = refl; messages_are = refl; lines_are = refl }
no_lines (Section id count) past n p = absurd (cc)
no_lines Anrs past n p = record { broken_is = refl; down_is = refl; sections_are = refl; messages_are = refl; lines_are = refl }

ties : (es : List Event) (place : Place) (past : List Told) (n : ℕ) → ArePlaced place n es → TiesAt place past n es
ties [] place past n p = no_lines place past n p
ties ((k, says) ∷ es) place past n (e, can, (next, f, p)) =
    rw e (step place past n says es next f p (λ other later q. ties es other later (n + 1) q))

-- nothing is known in front of the first line
pub record IsFresh (j : Known) : Type 0 where
  pub broken : j.broken ≡ None
  pub down : j.down ≡ None
  pub sections : j.sections ≡ 0
  pub messages : j.messages ≡ 0
  pub lines : j.lines ≡ []

judged_all : (j : Known) (n : ℕ) (r : Result (List Event) ℕ) → IsFresh j → Places Between n r → judged_on j [] r ≡ judged_streams (streams_in r)
judged_all j n (Err bad) fresh p = refl
judged_all j n (Ok es) fresh p =
    let t : Outside [] es = ties es Between [] n p in
    let sections : j.sections + sections_left es ≡ length (streams_of es) = omega (arith, fresh.sections, t.sections_are) in
    let messages : j.messages + messages_left es ≡ messages_in (streams_of es) = omega (arith, fresh.messages, t.messages_are) in
    rw (fresh.broken, fresh.down, fresh.lines, t.broken_is, t.down_is, t.lines_are, sections, messages) refl

-- a judge that knows nothing yet and all lines behind the order
pub at_start : (j : Known) (bytes : List ℕ) → IsFresh j → judged_on j [] (events_of bytes) ≡ judged bytes
at_start j bytes fresh = let (n, p) = placed_of bytes in judged_all j n (events_of bytes) fresh p

-- ---- one line more

-- what is answered does not look at what is down where there is a break
answered : (broken : Option (ℕ × Reason)) (down other : Option (ℕ × Down)) (sections messages : ℕ) (lines : List ℕ) → (broken ≡ None → down ≡ other)
    → answer broken down sections messages lines ≡ answer broken other sections messages lines
answered None down other sections messages lines h = ap (λ d. answer None d sections messages lines) (h refl)
answered (Some b) down other sections messages lines h = refl

unbroken : {A : Type 0} (a b : Option A) → option_or a b ≡ None → a ≡ None
unbroken None b h = refl
unbroken (Some x) b h = absurd (cc)

pub after_line : (past : List Told) (n : ℕ) (line : StreamLine) (old new : Known) (r : Result (List Event) ℕ) → Takes past n line old new
    → judged_on old past (with_event (n, line) r) ≡ judged_on new (sent_after past line) r
after_line past n line old new (Err bad) h = refl
after_line past n line old new (Ok es) h =
    let later = sent_after past line in
    let broken : option_or old.broken (option_or (broken_at past n line) (broken_left later es)) ≡ option_or new.broken (broken_left later es) =
    sym (or_again old.broken (broken_at past n line) (broken_left later es)) ∙ ap (λ o. option_or o (broken_left later es)) (sym h.broken) in
    let down : option_or new.broken (broken_left later es) ≡ None
    → option_or old.down (option_or (down_at past n line) (down_left later es)) ≡ option_or new.down (down_left later es) =
    λ none.
    sym (or_again old.down (down_at past n line) (down_left later es))
    ∙ ap (λ o. option_or o (down_left later es)) (sym (h.down (unbroken new.broken (broken_left later es) none))) in
    let sections : old.sections + (sections_at line + sections_left es) ≡ new.sections + sections_left es = omega (arith, h.sections) in
    let messages : old.messages + (messages_at line + messages_left es) ≡ new.messages + messages_left es = omega (arith, h.messages) in
    let lines : old.lines ++ (lines_at line ++ lines_left es) ≡ new.lines ++ lines_left es = rw h.lines (sym (append_assoc old.lines (lines_at line) (lines_left es))) in
    rw (broken, sections, messages, lines)
    (answered (option_or new.broken (broken_left later es)) (option_or old.down (option_or (down_at past n line) (down_left later es)))
    (option_or new.down (down_left later es)) (new.sections + sections_left es) (new.messages + messages_left es) (new.lines ++ lines_left es) down)

-- the line that a reader answered, and one byte at least for it
pub one_read : (old new : Unread) (o : Option Event) (e : Event) → o ≡ Some e → Goes old (Ok o) new → (old.events ≡ with_event e new.events) × (new.left < old.left)
one_read old new o e is goes = rw is at goes
