-- The text of a stream file is read again as its streams.
use Rattle.std.proofs.Common.{◌≡◌, ℕ, ◌+◌, ◌^◌, ◌<◌, ◌≤◌, List, [], ◌∷◌, ◌++◌, length, Option, Some, None, Ok, true, refl, sym, ap, subst, ◌∙◌, arith}
use Rattle.std.specs.Prelude.{codes}
use Rattle.std.specs.Fmt.{decimal}
use Rattle.std.proofs.Math.Dec.{eqb}
use Rattle.std.proofs.lemmas.Bool.{eq-eqb}
use Rattle.std.proofs.lemmas.List.{append_assoc, append-nil}
use Rattle.input_types.specs.declared.message.Message.{Message as Told}
use Rattle.stream_text.specs.declared.order_line.OrderLine.{OrderLine}
use Rattle.stream_text.specs.declared.stream_line.StreamLine.{StreamLine}
use Rattle.stream_text.specs.declared.stream_line.StreamLine.TheVariants.{Channel, Message, End, Anr as AnrLine}
use Rattle.stream_text.specs.declared.reading.stream_lines.Place.{Place}
use Rattle.stream_text.specs.declared.reading.stream_lines.Place.TheVariants.{Between, Section as InSection, Anrs}
use Rattle.stream_text.specs.Number.{◌>>=◌}
use Rattle.stream_text.specs.OrderText.{head_of, order_passed, passed_behind}
use Rattle.text_lines.specs.Lines.{Line, lines_of}
use Rattle.stream_text.specs.Spelling.{channel_line, end_line, labeled, message_line, message_lines, anr_line, numbered, body}
use Rattle.stream_text.specs.MessageLine.{message_words}
use Rattle.stream_text.specs.StreamLine.{channel_words, end_words, anr_words, IsId, SpellsLine}
use Rattle.stream_text.specs.StreamFile.{Stream, events_behind, events_from, events_of, follow, numbered_line, streams_in, with_event}
use Rattle.stream_text.specs.StreamAnswer.{opened, with_stream}
use Rattle.stream_text.specs.StreamText.{AreAnrs, AreNumbered, AreSections, IsSection, MayBeOrder, Anr, Section, line_behind, anrs_text, section_text, sections_text, stream_text, streams_from}
use Rattle.stream_text.proofs.LineTexts.{line_again}
use Rattle.stream_text.proofs.NoNewlines.{first_ok, last_ok, message_ok, name_ok}
use Rattle.stream_text.proofs.OrderPassed.{order_over}
use Rattle.stream_text.proofs.OrderTexts.{NoNewline, lines_again}
use Rattle.stream_text.proofs.Streams.{channel_opens, opened_end, opened_more, others_add_none}

-- a line that is spelled, in front of others
step : (place next : Place) (n : ℕ) (words rest : List ℕ) (says : StreamLine) → NoNewline words → SpellsLine words says → follow place says ≡ Some next
    → events_from place n (lines_of (words ++ 10 ∷ rest)) ≡ with_event (n, says) (events_from next (n + 1) (lines_of rest))
step place next n words rest says clean spells follows =
    ap (events_from place n) (lines_again words rest clean)
    ∙ ap (λ (o : Option StreamLine). numbered_line n (o >>= λ s. follow place s >>= λ x. Some (s, x)) (λ x. events_from x (n + 1) (lines_of rest))) (line_again words says spells)
    ∙ ap (λ (o : Option Place). numbered_line n (o >>= λ x. Some (says, x)) (λ x. events_from x (n + 1) (lines_of rest))) follows

same_true : (n : ℕ) → eqb n n ≡ true
same_true n = eq-eqb n n refl

pub end_text : (id sent received finished : ℕ) (rest : List ℕ) → end_line id sent received finished ++ rest ≡ end_words id sent received finished ++ 10 ∷ rest
unfolding end_line end_words
end_text id sent received finished rest =
    append_assoc (labeled (codes "end ") id ++ labeled (codes " sent ") sent ++ labeled (codes " received ") received ++ labeled (codes " finished ") finished) (codes "\n") rest

pub message_text : (m : Told) (ms : List Told) (rest : List ℕ) → message_lines (m ∷ ms) ++ rest ≡ message_words m ++ 10 ∷ (message_lines ms ++ rest)
unfolding message_words
message_text m ms rest =
    append_assoc (message_line m) (message_lines ms) rest ∙ append_assoc (numbered m.seq m.moment ++ body m.body) (codes "\n") (message_lines ms ++ rest)

message_follows : (id told : ℕ) (m : Told) → m.seq ≡ told + 1 → follow (InSection id told) (Message m) ≡ Some (InSection id (told + 1))
message_follows id told m e = rw (eq-eqb m.seq (told + 1) e) refl

end_follows : (id told sent received finished : ℕ) → sent ≡ told → follow (InSection id told) (End id sent received finished) ≡ Some Between
end_follows id told sent received finished e = rw (same_true id, eq-eqb sent told e) refl

-- the messages of a section and its end
section_rest : (id first told n sent received finished : ℕ) (front ms : List Told) (rest : List ℕ)
    → IsId id → AreNumbered (told + 1) ms → told + length ms ≡ sent → sent < 2 ^ 64 → received < 2 ^ 64 → finished < 2 ^ 64
    → opened id first front (events_from (InSection id told) n (lines_of (message_lines ms ++ (end_line id sent received finished ++ rest))))
    ≡ with_stream (record { id = id; first_line = first; messages = front ++ ms }) (streams_in (events_from Between (n + length ms + 1) (lines_of rest)))
section_rest id first told n sent received finished front [] rest i k e s r f =
    let says : StreamLine = End id sent received finished in
    let left = events_from Between (n + 1) (lines_of rest) in
    let next : n + 1 ≡ n + 0 + 1 = omega arith in
    ap (λ t. opened id first front (events_from (InSection id told) n (lines_of t))) (end_text id sent received finished rest)
    ∙ ap (opened id first front) (step (InSection id told) Between n (end_words id sent received finished) rest says (last_ok id sent received finished i s r f) (refl, i, s, r, f) (end_follows id told sent received finished (omega arith)))
    ∙ opened_end id first front (Some (n, says)) left refl
    ∙ ap (with_stream (record { id = id; first_line = first; messages = front })) (others_add_none n says left refl)
    ∙ ap (λ (ms : List Told). with_stream (record { id = id; first_line = first; messages = ms }) (streams_in left)) (sym (append-nil front))
    ∙ ap (λ (k : ℕ). with_stream (record { id = id; first_line = first; messages = front ++ [] }) (streams_in (events_from Between k (lines_of rest)))) next
section_rest id first told n sent received finished front (m ∷ ms) rest i k e s r f =
    let text = message_lines ms ++ (end_line id sent received finished ++ rest) in
    let left = events_from (InSection id (told + 1)) (n + 1) (lines_of text) in
    let next : n + 1 + length ms + 1 ≡ n + length (m ∷ ms) + 1 = omega arith in
    ap (λ t. opened id first front (events_from (InSection id told) n (lines_of t))) (message_text m ms (end_line id sent received finished ++ rest))
    ∙ ap (opened id first front) (step (InSection id told) (InSection id (told + 1)) n (message_words m) text (Message m) (message_ok m k.1) (refl, k.1) (message_follows id told m k.0))
    ∙ opened_more id first front m (Some (n, Message m)) left refl
    ∙ section_rest id first (told + 1) (n + 1) sent received finished (front ++ m ∷ []) ms rest i k.2 (omega (arith, e)) s r f
    ∙ ap (λ (all : List Told). with_stream (record { id = id; first_line = first; messages = all }) (streams_in (events_from Between (n + 1 + length ms + 1) (lines_of rest)))) (append_assoc front (m ∷ []) ms)
    ∙ ap (λ (k : ℕ). with_stream (record { id = id; first_line = first; messages = front ++ m ∷ ms }) (streams_in (events_from Between k (lines_of rest)))) next

pub first_text : (s : Section) (rest : List ℕ)
    → section_text s ++ rest ≡ channel_words s.id s.name ++ 10 ∷ (message_lines s.messages ++ (end_line s.id (length s.messages) s.received s.finished ++ rest))
unfolding section_text channel_line channel_words
first_text s rest =
    let front = codes "channel " ++ decimal s.id ++ codes " " ++ s.name in
    let last = end_line s.id (length s.messages) s.received s.finished in
    append_assoc (front ++ codes "\n" ++ message_lines s.messages) last rest
    ∙ append_assoc (front ++ codes "\n") (message_lines s.messages) (last ++ rest)
    ∙ append_assoc front (codes "\n") (message_lines s.messages ++ (last ++ rest))

section_again : (n : ℕ) (s : Section) (rest : List ℕ) → IsSection s
    → streams_in (events_from Between n (lines_of (section_text s ++ rest)))
    ≡ with_stream (record { id = s.id; first_line = n + 1; messages = s.messages }) (streams_in (events_from Between (n + 1 + length s.messages + 1) (lines_of rest)))
section_again n s rest h =
    let text = message_lines s.messages ++ (end_line s.id (length s.messages) s.received s.finished ++ rest) in
    let left = events_from (InSection s.id 0) (n + 1) (lines_of text) in
    ap (λ t. streams_in (events_from Between n (lines_of t))) (first_text s rest)
    ∙ ap streams_in (step Between (InSection s.id 0) n (channel_words s.id s.name) text (Channel s.id) (first_ok s.id s.name h.id h.name) (s.name, refl, h.id, h.name) refl)
    ∙ channel_opens s.id n (Channel s.id) left refl
    ∙ section_rest s.id (n + 1) 0 (n + 1) (length s.messages) s.received s.finished [] s.messages rest h.id h.messages (omega arith) h.sent h.received h.finished

pub anr_text : (x : Anr) (rest : List ℕ) → anr_line x.clock x.id x.seq ++ rest ≡ anr_words x.clock x.id x.seq ++ 10 ∷ rest
unfolding anr_line anr_words
anr_text x rest = append_assoc (labeled (codes "anr ") x.clock ++ labeled (codes " ") x.id ++ labeled (codes " ") x.seq) (codes "\n") rest

anr_step : (place : Place) (n : ℕ) (x : Anr) (rest : List ℕ) → x.clock ≤ 1000000000000000000 → IsId x.id → x.seq < 2 ^ 64
    → follow place (AnrLine x.clock x.id x.seq) ≡ Some Anrs
    → streams_in (events_from place n (lines_of (anr_line x.clock x.id x.seq ++ rest))) ≡ streams_in (events_from Anrs (n + 1) (lines_of rest))
anr_step place n x rest c i s follows =
    let says : StreamLine = AnrLine x.clock x.id x.seq in
    ap (λ t. streams_in (events_from place n (lines_of t))) (anr_text x rest)
    ∙ ap streams_in (step place Anrs n (anr_words x.clock x.id x.seq) rest says (name_ok x.clock x.id x.seq (omega (arith, c)) i s) (refl, c, i, s) follows)
    ∙ others_add_none n says (events_from Anrs (n + 1) (lines_of rest)) refl

anrs_again : (n : ℕ) (ns : List Anr) → AreAnrs ns → streams_in (events_from Anrs n (lines_of (anrs_text ns))) ≡ Ok []
anrs_again n [] h = refl
anrs_again n (x ∷ xs) h = anr_step Anrs n x (anrs_text xs) h.0 h.1 h.2 refl ∙ anrs_again (n + 1) xs h.3

first_anr : (n : ℕ) (ns : List Anr) → AreAnrs ns → streams_in (events_from Between n (lines_of (anrs_text ns))) ≡ Ok []
first_anr n [] h = refl
first_anr n (x ∷ xs) h = anr_step Between n x (anrs_text xs) h.0 h.1 h.2 refl ∙ anrs_again (n + 1) xs h.3

sections_again : (n : ℕ) (ss : List Section) (ns : List Anr) → AreSections ss → AreAnrs ns
    → streams_in (events_from Between n (lines_of (sections_text ss ++ anrs_text ns))) ≡ Ok (streams_from n ss)
sections_again n [] ns h i = first_anr n ns i
sections_again n (s ∷ ss) ns h i =
    let stream : Stream = record { id = s.id; first_line = n + 1; messages = s.messages } in
    ap (λ t. streams_in (events_from Between n (lines_of t))) (append_assoc (section_text s) (sections_text ss) (anrs_text ns))
    ∙ section_again n s (sections_text ss ++ anrs_text ns) h.0
    ∙ ap (with_stream stream) (sections_again (n + 1 + length s.messages + 1) ss ns h.1 i)

-- no order in front
other_front : (words rest : List ℕ) → NoNewline words → head_of words ≡ None → order_passed (lines_of (words ++ 10 ∷ rest)) ≡ Ok (1, lines_of (words ++ 10 ∷ rest))
other_front words rest clean e =
    let parts = lines_again words rest clean in
    ap order_passed parts
    ∙ ap (λ o. passed_behind o (words, true) (lines_of rest)) e
    ∙ ap (λ (lines : List Line). Ok (1, lines)) (sym parts)

no_head_channel : (id : ℕ) (name : List ℕ) → head_of (channel_words id name) ≡ None
unfolding head_of channel_words
no_head_channel id name = refl

no_head_anr : (clock id seq : ℕ) → head_of (anr_words clock id seq) ≡ None
unfolding head_of anr_words labeled
no_head_anr clock id seq = refl

no_order : (ss : List Section) (ns : List Anr) → AreSections ss → AreAnrs ns
    → order_passed (lines_of (sections_text ss ++ anrs_text ns)) ≡ Ok (1, lines_of (sections_text ss ++ anrs_text ns))
no_order [] [] h i = refl
no_order [] (x ∷ xs) h i =
    let Front : List ℕ → Type 0 = λ t. order_passed (lines_of t) ≡ Ok (1, lines_of t) in
    subst Front (sym (anr_text x (anrs_text xs)))
    (other_front (anr_words x.clock x.id x.seq) (anrs_text xs) (name_ok x.clock x.id x.seq (omega (arith, i.0)) i.1 i.2) (no_head_anr x.clock x.id x.seq))
no_order (s ∷ ss) ns h i =
    let Front : List ℕ → Type 0 = λ t. order_passed (lines_of t) ≡ Ok (1, lines_of t) in
    let rest = sections_text ss ++ anrs_text ns in
    subst Front (sym (append_assoc (section_text s) (sections_text ss) (anrs_text ns) ∙ first_text s rest))
    (other_front (channel_words s.id s.name) (message_lines s.messages ++ (end_line s.id (length s.messages) s.received s.finished ++ rest)) (first_ok s.id s.name h.0.id h.0.name) (no_head_channel s.id s.name))

-- a stream file that was written is read again as its streams
pub stream_again : (order : Option (List OrderLine)) (ss : List Section) (ns : List Anr) → MayBeOrder order → AreSections ss → AreAnrs ns
    → streams_in (events_of (stream_text order ss ns)) ≡ Ok (streams_from (line_behind order) ss)
unfolding events_of stream_text
stream_again None ss ns o h i = ap (λ p. streams_in (events_behind p)) (no_order ss ns h i) ∙ sections_again 1 ss ns h i
stream_again (Some order) ss ns o h i =
    ap (λ p. streams_in (events_behind p)) (order_over order (sections_text ss ++ anrs_text ns) o) ∙ sections_again (length order + 2) ss ns h i
