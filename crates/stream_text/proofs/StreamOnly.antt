-- Nothing but the text of a stream file is read.
use Rattle.std.proofs.Common.{◌≡◌, ℕ, ◌+◌, ◌-◌, ◌^◌, ◌<◌, ◌≤◌, ◌==◌, ◌&&◌, cond, List, [], ◌∷◌, ◌++◌, length, Option, Some, None, Result, Ok, Err, Bool, true, false, refl, sym, ap, subst, ◌∙◌, arith, inl, inr}
use Rattle.std.specs.Prelude.{codes, is_some}
use Rattle.std.specs.List.{AllByRecursion}
use Rattle.std.proofs.Math.Dec.{eqb}
use Rattle.std.proofs.lemmas.Bool.{eqb-true, and_parts, cases_Bool}
use Rattle.std.proofs.lemmas.Bool.Decides.{nat_tests}
use Rattle.std.proofs.lemmas.Option.{same_Some, none-some, cond_some}
use Rattle.std.proofs.lemmas.List.{append_assoc}
use Rattle.std.proofs.lemmas.List.Elements.{All-from_recursion}
use Rattle.input_types.specs.declared.message.Message.{Message as Told}
use Rattle.stream_text.specs.declared.order_line.OrderLine.{OrderLine}
use Rattle.stream_text.specs.declared.stream_line.StreamLine.{StreamLine}
use Rattle.stream_text.specs.declared.stream_line.StreamLine.TheVariants.{Channel, Message, End, Anr as AnrLine}
use Rattle.stream_text.specs.declared.reading.stream_lines.Place.{Place}
use Rattle.stream_text.specs.declared.reading.stream_lines.Place.TheVariants.{Between, Section as InSection, Anrs}
use Rattle.stream_text.specs.Number.{◌>>=◌}
use Rattle.stream_text.specs.Order.{IsLine, head_spelling, line_spelling, lines_spelling, order_spelling, order_line_of}
use Rattle.stream_text.specs.OrderText.{head_of, lines_passed, order_passed, passed_behind}
use Rattle.text_lines.specs.Lines.{Line, lines_of, with_front}
use Rattle.stream_text.specs.Spelling.{end_line, message_lines}
use Rattle.stream_text.specs.MessageLine.{message_words}
use Rattle.stream_text.specs.StreamLine.{channel_words, end_words, line_of, anr_words, SpellsLine}
use Rattle.stream_text.specs.StreamFile.{Event, events_behind, events_from, events_of, follow, numbered_line, told, with_event}
use Rattle.stream_text.specs.StreamText.{AreAnrs, AreNumbered, AreSections, IsStreamFile, MayBeOrder, Anr, Section, front_text, anrs_text, section_text, sections_text, stream_text}
use Rattle.stream_text.proofs.LineTexts.{line_only}
use Rattle.stream_text.proofs.Numbers.{bind_some, chosen}
use Rattle.stream_text.proofs.OrderLines.{head_only, line_only as order_line_only}
use Rattle.stream_text.proofs.OrderTexts.{closed}
use Rattle.stream_text.proofs.StreamTexts.{end_text, first_text, message_text, anr_text}

-- a newline ends each line
abbrev AllEnded : List Line → Type 0
AllEnded [] = Unit {0}
AllEnded (line ∷ lines) = (line.1 ≡ true) × AllEnded lines

not_true : {P : Type 0} → false ≡ true → P
not_true e = (cc)

ended_front : (b : ℕ) (lines : List Line) → AllEnded (with_front b lines) → AllEnded lines × (closed (with_front b lines) ≡ b ∷ closed lines)
ended_front b [] h = not_true h.0
ended_front b (line ∷ lines) h = (h, refl)

ended_text : (bs : List ℕ) → AllEnded (lines_of bs) → bs ≡ closed (lines_of bs)
ended_text [] h = refl
ended_text (b ∷ bs) h =
    elim (cases_Bool (b == 10)) [
      | inl newline ↦
          let i : AllEnded (([], true) ∷ lines_of bs) = rw newline at h in
          rw newline (ap (λ k. k ∷ bs) (eqb-true b 10 newline) ∙ ap (λ t. 10 ∷ t) (ended_text bs i.1))
      | inr other ↦
          let i : AllEnded (with_front b (lines_of bs)) = rw other at h in
          let (j, e) = ended_front b (lines_of bs) i in
          rw other (ap (λ t. b ∷ t) (ended_text bs j) ∙ sym e)
    ]

-- what is left of a section behind some of its messages, and what is behind it
record Left (id told : ℕ) (text : List ℕ) : Type 0 where
  messages : List Told
  sent : ℕ
  received : ℕ
  finished : ℕ
  sections : List Section
  anrs : List Anr
  numbered : AreNumbered (told + 1) messages
  count : told + length messages ≡ sent
  fits : (sent < 2 ^ 64) × (received < 2 ^ 64) × (finished < 2 ^ 64)
  are_sections : AreSections sections
  are_anrs : AreAnrs anrs
  is : text ≡ message_lines messages ++ (end_line id sent received finished ++ (sections_text sections ++ anrs_text anrs))

-- what is left of a file at each place
abbrev Shape : Place → List ℕ → Type 0
Shape Between t = (ss : List Section) × (ns : List Anr) × (AreSections ss × AreAnrs ns × (t ≡ sections_text ss ++ anrs_text ns))
Shape (InSection id told) t = Left id told t
Shape Anrs t = (ns : List Anr) × (AreAnrs ns × (t ≡ anrs_text ns))

from_next : (next other : Place) (t : List ℕ) → other ≡ next → Shape next t → Shape other t
from_next next other t e s = let P : Place → Type 0 = λ p. Shape p t in subst P (sym e) s

section_begins : (words t : List ℕ) (id : ℕ) → SpellsLine words (Channel id) → Left id 0 t → Shape Between (words ++ 10 ∷ t)
section_begins words t id (name, is, fits, named) left =
    let s : Section = record { id = id; name = name; messages = left.messages; received = left.received; finished = left.finished } in
    let count : left.sent ≡ length left.messages = omega (arith, left.count) in
    let rest = sections_text left.sections ++ anrs_text left.anrs in (
      s ∷ left.sections,
      left.anrs,
      (
        (record { id = fits; name = named; messages = left.numbered; sent = omega (arith, count, left.fits.0); received = left.fits.1; finished = left.fits.2 }, left.are_sections),
        left.are_anrs,
        ap (λ w. w ++ 10 ∷ t) is
            ∙ ap (λ u. channel_words id name ++ 10 ∷ u) (left.is ∙ ap (λ (k : ℕ). message_lines left.messages ++ (end_line id k left.received left.finished ++ rest)) count)
            ∙ sym (append_assoc (section_text s) (sections_text left.sections) (anrs_text left.anrs) ∙ first_text s rest),
      ),
    )

message_goes : (words t : List ℕ) (id told : ℕ) (m : Told) → SpellsLine words (Message m) → m.seq ≡ told + 1 → Left id (told + 1) t → Left id told (words ++ 10 ∷ t)
message_goes words t id told m (is, spelled) place left = record {
  messages = m ∷ left.messages;
  sent = left.sent;
  received = left.received;
  finished = left.finished;
  sections = left.sections;
  anrs = left.anrs;
  numbered = (place, spelled, left.numbered);
  count = omega (arith, left.count);
  fits = left.fits;
  are_sections = left.are_sections;
  are_anrs = left.are_anrs;
  is =
      ap (λ w. w ++ 10 ∷ t) is
      ∙ ap (λ u. message_words m ++ 10 ∷ u) left.is
      ∙ sym (message_text m left.messages (end_line id left.sent left.received left.finished ++ (sections_text left.sections ++ anrs_text left.anrs)));
}

section_ends : (words t : List ℕ) (id told e sent received finished : ℕ) → SpellsLine words (End e sent received finished) → e ≡ id → sent ≡ told → Shape Between t
    → Left id told (words ++ 10 ∷ t)
section_ends words t id told e sent received finished (is, fits, s, r, f) same count (ss, ns, (are_sections, are_anrs, text)) = record {
  messages = [];
  sent = sent;
  received = received;
  finished = finished;
  sections = ss;
  anrs = ns;
  numbered = tt;
  count = omega (arith, count);
  fits = (s, r, f);
  are_sections = are_sections;
  are_anrs = are_anrs;
  is =
      ap (λ w. w ++ 10 ∷ t) is
      ∙ ap (λ u. end_words e sent received finished ++ 10 ∷ u) text
      ∙ sym (end_text e sent received finished (sections_text ss ++ anrs_text ns))
      ∙ ap (λ (k : ℕ). end_line k sent received finished ++ (sections_text ss ++ anrs_text ns)) same;
}

anr_goes : (words t : List ℕ) (clock id seq : ℕ) → SpellsLine words (AnrLine clock id seq) → Shape Anrs t → Shape Anrs (words ++ 10 ∷ t)
anr_goes words t clock id seq (is, c, i, s) (ns, (are_anrs, text)) =
    let x : Anr = record { clock = clock; id = id; seq = seq } in
    (x ∷ ns, ((c, i, s, are_anrs), ap (λ w. w ++ 10 ∷ t) is ∙ ap (λ u. anr_words clock id seq ++ 10 ∷ u) text ∙ sym (anr_text x (anrs_text ns))))

first_of_anrs : (t : List ℕ) → Shape Anrs t → Shape Between t
first_of_anrs t (ns, (are_anrs, text)) = ([], ns, (tt, are_anrs, text))

-- a line in front of what may follow it
shape_step : (place next : Place) (words t : List ℕ) (says : StreamLine) → SpellsLine words says → follow place says ≡ Some next → Shape next t → Shape place (words ++ 10 ∷ t)
shape_step Between next words t (Channel id) h f s = section_begins words t id h (from_next next (InSection id 0) t (same_Some (InSection id 0) next f) s)
shape_step Between next words t (Message m) h f s = absurd (none-some next f)
shape_step Between next words t (End e sent received finished) h f s = absurd (none-some next f)
shape_step Between next words t (AnrLine clock id seq) h f s =
    first_of_anrs (words ++ 10 ∷ t) (anr_goes words t clock id seq h (from_next next Anrs t (same_Some Anrs next f) s))
shape_step (InSection id told) next words t (Channel other) h f s = absurd (none-some next f)
shape_step (InSection id told) next words t (Message m) h f s =
    let (test, same) = cond_some (eqb m.seq (told + 1)) (InSection id (told + 1)) next f in
    message_goes words t id told m h (eqb-true m.seq (told + 1) test) (from_next next (InSection id (told + 1)) t same s)
shape_step (InSection id told) next words t (End e sent received finished) h f s =
    let (test, same) = cond_some (eqb e id && eqb sent told) Between next f in
    let (id_test, sent_test) = and_parts (eqb e id) (eqb sent told) test in
    section_ends words t id told e sent received finished h (eqb-true e id id_test) (eqb-true sent told sent_test) (from_next next Between t same s)
shape_step (InSection id told) next words t (AnrLine clock other seq) h f s = absurd (none-some next f)
shape_step Anrs next words t (Channel id) h f s = absurd (none-some next f)
shape_step Anrs next words t (Message m) h f s = absurd (none-some next f)
shape_step Anrs next words t (End e sent received finished) h f s = absurd (none-some next f)
shape_step Anrs next words t (AnrLine clock id seq) h f s = anr_goes words t clock id seq h (from_next next Anrs t (same_Some Anrs next f) s)

event_ok : (event : Event) (r : Result (List Event) ℕ) (events : List Event) → with_event event r ≡ Ok events → (rest : List Event) × (r ≡ Ok rest)
event_ok event (Ok rest) events h = (rest, refl)
event_ok event (Err bad) events h = (cc)

numbered_ok : (n : ℕ) (o : Option (StreamLine × Place)) (behind : Place → Result (List Event) ℕ) (events : List Event) → numbered_line n o behind ≡ Ok events
    → (says : StreamLine × Place) × (rest : List Event) × ((o ≡ Some says) × (behind says.1 ≡ Ok rest))
numbered_ok n None behind events h = (cc)
numbered_ok n (Some says) behind events h = let (rest, e) = event_ok (n, says.0) (behind says.1) events h in (says, rest, (refl, e))

sent_parts : (place : Place) (line : Line) (says : StreamLine × Place) → told place line ≡ Some says
    → (line.1 ≡ true) × (line_of line.0 ≡ Some says.0) × (follow place says.0 ≡ Some says.1)
sent_parts place line says h =
    elim (chosen line.1 (line_of line.0 >>= λ s. follow place s >>= λ x. Some (s, x)) None (Some says) h) [
      | inl ended ↦
          let (said, read, h1) = bind_some (line_of line.0) _ says ended.1 in
          let (next, follows, h2) = bind_some (follow place said) _ says h1 in
          let same : ◌≡◌ {A = StreamLine × Place} (said, next) says = same_Some (said, next) says h2 in
          (ended.0, read ∙ ap (λ p. Some p.0) same, ap (λ s. follow place s) (sym (ap (λ p. p.0) same)) ∙ follows ∙ ap (λ p. Some p.1) same)
      | inr other ↦ absurd (none-some says other.1)
    ]

no_lines : (place : Place) (n : ℕ) (events : List Event) → events_from place n [] ≡ Ok events → Shape place []
no_lines Between n events h = ([], [], (tt, tt, refl))
no_lines (InSection id told) n events h = (cc)
no_lines Anrs n events h = ([], (tt, refl))

lines_shape : (place : Place) (n : ℕ) (lines : List Line) (events : List Event) → events_from place n lines ≡ Ok events → AllEnded lines × Shape place (closed lines)
lines_shape place n [] events h = (tt, no_lines place n events h)
lines_shape place n (line ∷ lines) events h =
    let (says, rest, (said, behind)) = numbered_ok n (told place line) (λ next. events_from next (n + 1) lines) events h in
    let (ended, read, follows) = sent_parts place line says said in
    let (others, shape) = lines_shape says.1 (n + 1) lines rest behind in
    ((ended, others), shape_step place says.1 line.0 (closed lines) says.0 (line_only line.0 says.0 read) follows shape)

-- an order that was passed over
abbrev Passed : List Line → ℕ → List Line → Type 0
Passed lines n rest =
    (order : List OrderLine) × (AllByRecursion IsLine order × (length order ≡ n) × (AllEnded rest → AllEnded lines) × (closed lines ≡ lines_spelling order ++ closed rest))

same_lines : (k m : ℕ) (lines rest : List Line) → ◌≡◌ {A = Result (ℕ × List Line) ℕ} (Ok (k, lines)) (Ok (m, rest)) → lines ≡ rest
same_lines k m lines rest h = let e : ◌≡◌ {A = ℕ × List Line} (k, lines) (m, rest) = cc in ap (λ p. p.1) e

none_passed : (n k m : ℕ) (lines rest : List Line) → (n == 0) ≡ true → ◌≡◌ {A = Result (ℕ × List Line) ℕ} (Ok (k, lines)) (Ok (m, rest)) → Passed lines n rest
none_passed n k m lines rest e h = subst (Passed lines n) (same_lines k m lines rest h) ([], (tt, sym (eqb-true n 0 e), (λ i. i), refl))

read_some : (o : Option OrderLine) → is_some o ≡ true → (line : OrderLine) × (o ≡ Some line)
read_some None h = not_true h
read_some (Some line) h = (line, refl)

some_number : (n : ℕ) → (n == 0) ≡ false → 1 ≤ n
some_number n h = grind (arith, nat_tests)

lines_are_passed : (k n m : ℕ) (lines rest : List Line) → lines_passed k n lines ≡ Ok (m, rest) → Passed lines n rest
lines_are_passed k n m [] rest h =
    elim (chosen (n == 0) (Ok (k, [])) (Err k) (Ok (m, rest)) h) [
      | inl none ↦ none_passed n k m [] rest none.0 none.1
      | inr some ↦ let e : ◌≡◌ {A = Result (ℕ × List Line) ℕ} (Err k) (Ok (m, rest)) = some.1 in (cc)
    ]
lines_are_passed k n m (line ∷ lines) rest h =
    elim (chosen (n == 0) (Ok (k, line ∷ lines)) (cond (line.1 && is_some (order_line_of line.0)) (lines_passed (k + 1) (n - 1) lines) (Err k)) (Ok (m, rest)) h) [
      | inl none ↦ none_passed n k m (line ∷ lines) rest none.0 none.1
      | inr some ↦ elim (chosen (line.1 && is_some (order_line_of line.0)) (lines_passed (k + 1) (n - 1) lines) (Err k) (Ok (m, rest)) some.1) [
        | inl good ↦
            let (ended, reads) = and_parts line.1 (is_some (order_line_of line.0)) good.0 in
            let (call, read) = read_some (order_line_of line.0) reads in
            let (spelled, fits) = order_line_only line.0 call read in
            let (calls, (each, count, others, text)) = lines_are_passed (k + 1) (n - 1) m lines rest good.1 in
            let low : 1 ≤ n = some_number n some.0 in
            let whole : lines_spelling (call ∷ calls) ++ closed rest ≡ line_spelling call ++ 10 ∷ (lines_spelling calls ++ closed rest) = simp append_assoc in
            (call ∷ calls, ((fits, each), omega (arith, count, low), (λ i. (ended, others i)), ap (λ w. w ++ 10 ∷ closed lines) spelled ∙ ap (λ t. line_spelling call ++ 10 ∷ t) text ∙ sym whole))
        | inr bad ↦ let e : ◌≡◌ {A = Result (ℕ × List Line) ℕ} (Err k) (Ok (m, rest)) = bad.1 in (cc)
      ]
    ]

abbrev Front : List Line → List Line → Type 0
Front lines rest = (order : Option (List OrderLine)) × (MayBeOrder order × (AllEnded rest → AllEnded lines) × (closed lines ≡ front_text order ++ closed rest))

no_front : (lines rest : List Line) (m : ℕ) → ◌≡◌ {A = Result (ℕ × List Line) ℕ} (Ok (1, lines)) (Ok (m, rest)) → Front lines rest
no_front lines rest m h = subst (Front lines) (same_lines 1 m lines rest h) (None, (tt, (λ i. i), refl))

head_of_ended : (b : Bool) (o : Option ℕ) (n : ℕ) → cond b o None ≡ Some n → (b ≡ true) × (o ≡ Some n)
head_of_ended true o n h = (refl, h)
head_of_ended false o n h = absurd (none-some n h)

order_front_text : (order : List OrderLine) (rest : List ℕ) → head_spelling (length order) ++ 10 ∷ (lines_spelling order ++ rest) ≡ order_spelling order ++ rest
unfolding order_spelling
order_front_text order rest =
    sym (append_assoc (head_spelling (length order) ++ codes "\n") (lines_spelling order) rest ∙ append_assoc (head_spelling (length order)) (codes "\n") (lines_spelling order ++ rest))

head_front : (o : Option ℕ) (m : ℕ) (line : Line) (lines rest : List Line) → o ≡ (cond line.1 (head_of line.0) None) → passed_behind o line lines ≡ Ok (m, rest) → Front (line ∷ lines) rest
head_front None m line lines rest e h = no_front (line ∷ lines) rest m h
head_front (Some n) m line lines rest e h =
    let (ended, head) = head_of_ended line.1 (head_of line.0) n (sym e) in
    let (spelled, small) = head_only line.0 n head in
    let (order, (each, count, others, text)) = lines_are_passed 2 n m lines rest h in
    let whole : head_spelling (length order) ++ 10 ∷ (lines_spelling order ++ closed rest) ≡ order_spelling order ++ closed rest = order_front_text order (closed rest) in (
      Some order,
      (
        (All-from_recursion IsLine order each, omega (arith, count, small)),
        (λ i. (ended, others i)),
        ap (λ w. w ++ 10 ∷ closed lines) (spelled ∙ ap head_spelling (sym count)) ∙ ap (λ t. head_spelling (length order) ++ 10 ∷ t) text ∙ whole,
      ),
    )

front_of : (m : ℕ) (lines rest : List Line) → order_passed lines ≡ Ok (m, rest) → Front lines rest
front_of m [] rest h = no_front [] rest m h
front_of m (line ∷ lines) rest h = head_front (cond line.1 (head_of line.0) None) m line lines rest refl h

behind_ok : (r : Result (ℕ × List Line) ℕ) (events : List Event) → events_behind r ≡ Ok events → (front : ℕ × List Line) × ((r ≡ Ok front) × (events_from Between front.0 front.1 ≡ Ok events))
behind_ok (Ok front) events h = (front, (refl, h))
behind_ok (Err bad) events h = (cc)

-- what is read is the text of a stream file
pub stream_only : (bytes : List ℕ) (events : List Event) → events_of bytes ≡ Ok events → IsStreamFile bytes
unfolding events_of stream_text
stream_only bytes events h =
    let (front, (passed, read)) = behind_ok (order_passed (lines_of bytes)) events h in
    let (ended, (ss, ns, (are_sections, are_anrs, text))) = lines_shape Between front.0 front.1 events read in
    let (order, (is_order, all_ended, begins)) = front_of front.0 (lines_of bytes) front.1 passed in
    (order, ss, ns, (is_order, are_sections, are_anrs, ended_text bytes (all_ended ended) ∙ begins ∙ ap (λ t. front_text order ++ t) text))
