-- The sections that lines begin are those of the streams of a file.
use Rattle.std.proofs.Common.{◌≡◌, ℕ, Bool, ◌+◌, ◌-◌, ◌<◌, ◌≤◌, ◌==◌, ◌&&◌, true, false, if◌then◌else◌, List, [], ◌∷◌, ◌++◌, length, map, Option, Some, None, Result, Ok, Err, refl, sym, ap, ◌∙◌, subst, arith, append_assoc, append-nil}
use Rattle.std.proofs.lemmas.Bool.{lt-ltb}
use Rattle.std.proofs.lemmas.List.{map-append}
use Rattle.std.proofs.lemmas.List.Folds.{list_all-append}
use Rattle.std.specs.Prelude.{IfSome}
use Rattle.input_types.specs.declared.message.Message.{Message as Told}
use Rattle.stream_judge.specs.Placed.{ArePlaced, Places}
use Rattle.stream_judge.proofs.Placed.{placed_of}
use Rattle.stream_text.specs.declared.stream_line.StreamLine.{StreamLine}
use Rattle.stream_text.specs.declared.stream_line.StreamLine.TheVariants.{Channel, Message, End, Anr}
use Rattle.stream_text.specs.declared.reading.stream_lines.Place.{Place}
use Rattle.stream_text.specs.declared.reading.stream_lines.Place.TheVariants.{Between, Section as Inside, Anrs}
use Rattle.stream_text.specs.StreamLine.{CanSay}
use Rattle.stream_text.specs.StreamAnswer.{channel_sent}
use Rattle.stream_text.specs.StreamFile.{Event, Goes, Unread, events_of, follow, messages_of, streams_of, with_event}
use Rattle.compare_text.specs.declared.section.Opened.{Opened}
use Rattle.compare_text.specs.Indexed.{are_opened, count_of, file_sections, is_opened, message_at, messages_left, sections_at, seen}
use Rattle.compare_text.specs.Points.{numbered_from, sections_of}

-- how many messages lines have
abbrev pub count_messages : List Event → ℕ
count_messages [] = 0
count_messages (e ∷ es) = message_at e.1 + count_messages es

-- behind some lines: the sections so far may be compared and are, with those that are begun by the lines that are left, those of the file; so are
-- their messages
pub record Counted (bytes : List ℕ) (opened : List Opened) (messages : ℕ) (es : List Event) : Type 0 where
  pub may : are_opened opened ≡ true
  pub all : file_sections bytes ≡ Ok (map seen opened ++ sections_at es)
  pub counted : messages + count_messages es ≡ count_of (map seen opened ++ sections_at es)

-- ---- numbered lines

messages_said : (says : StreamLine) (n k : ℕ) (es : List Event) → k ≡ n → numbered_from (n + 1) (messages_of es) ≡ messages_left es
    → numbered_from n (messages_of ((k, says) ∷ es)) ≡ messages_left ((k, says) ∷ es)
messages_said (Channel id) n k es e h = refl
messages_said (Message m) n k es e h = ap (λ ms. (n, m) ∷ ms) h ∙ ap (λ j. (j, m) ∷ messages_left es) (sym e)
messages_said (End id sent received finished) n k es e h = refl
messages_said (Anr clock id seq) n k es e h = refl

messages_tied : (es : List Event) (place : Place) (n : ℕ) → ArePlaced place n es → numbered_from n (messages_of es) ≡ messages_left es
messages_tied [] place n p = refl
messages_tied ((k, says) ∷ es) place n p = messages_said says n k es (p.0) (messages_tied es p.2.0 (n + 1) p.2.2)

sections_said : (says : StreamLine) (n k : ℕ) (es : List Event) → k ≡ n → numbered_from (n + 1) (messages_of es) ≡ messages_left es
    → sections_of (streams_of es) ≡ sections_at es → sections_of (streams_of ((k, says) ∷ es)) ≡ sections_at ((k, says) ∷ es)
sections_said (Channel id) n k es e messages h =
    let line : k + 1 - 1 ≡ k = omega arith in
    let own : numbered_from (k + 1) (messages_of es) ≡ messages_left es = rw e messages in
    rw (line, own, h) refl
sections_said (Message m) n k es e messages h = h
sections_said (End id sent received finished) n k es e messages h = h
sections_said (Anr clock id seq) n k es e messages h = h

sections_tied : (es : List Event) (place : Place) (n : ℕ) → ArePlaced place n es → sections_of (streams_of es) ≡ sections_at es
sections_tied [] place n p = refl
sections_tied ((k, says) ∷ es) place n p =
    sections_said says n k es (p.0) (messages_tied es p.2.0 (n + 1) p.2.2) (sections_tied es p.2.0 (n + 1) p.2.2)

-- ---- messages stand in sections

abbrev counts : Place → List Event → Type 0
counts Between es = count_messages es ≡ count_of (sections_at es)
counts (Inside id told) es = count_messages es ≡ length (messages_left es) + count_of (sections_at es)
counts Anrs es = count_messages es ≡ count_of (sections_at es)

sent_next : (id count : ℕ) (b : Bool) (next : Place) → (if b then Some (Inside id (count + 1)) else None) ≡ Some next → Inside id (count + 1) ≡ next
sent_next id count true next h = cc
sent_next id count false next h = absurd (cc)

ended_next : (b : Bool) (next : Place) → (if b then Some Between else None) ≡ Some next → Between ≡ next
ended_next true next h = cc
ended_next false next h = absurd (cc)

count_step : (place next : Place) (n : ℕ) (says : StreamLine) (es : List Event) → follow place says ≡ Some next → counts next es → counts place ((n, says) ∷ es)
count_step Between next n (Channel id) es f h =
    let same : Inside id 0 ≡ next = cc in
    let own : counts (Inside id 0) es = subst (λ (p : Place). counts p es) (sym same) h in omega (arith, own)
count_step Between next n (Message m) es f h = absurd (cc)
count_step Between next n (End e sent received finished) es f h = absurd (cc)
count_step Between next n (Anr clock id seq) es f h =
    let same : Anrs ≡ next = cc in
    let own : counts Anrs es = subst (λ (p : Place). counts p es) (sym same) h in omega (arith, own)
count_step (Inside id told) next n (Channel other) es f h = absurd (cc)
count_step (Inside id told) next n (Message m) es f h =
    let own : counts (Inside id (told + 1)) es = subst (λ (p : Place). counts p es) (sym (sent_next id told (m.seq == told + 1) next f)) h in
    omega (arith, own)
count_step (Inside id told) next n (End e sent received finished) es f h =
    let own : counts Between es = subst (λ (p : Place). counts p es) (sym (ended_next ((e == id) && (sent == told)) next f)) h in omega (arith, own)
count_step (Inside id told) next n (Anr clock other seq) es f h = absurd (cc)
count_step Anrs next n (Channel id) es f h = absurd (cc)
count_step Anrs next n (Message m) es f h = absurd (cc)
count_step Anrs next n (End e sent received finished) es f h = absurd (cc)
count_step Anrs next n (Anr clock id seq) es f h =
    let same : Anrs ≡ next = cc in
    let own : counts Anrs es = subst (λ (p : Place). counts p es) (sym same) h in omega (arith, own)

no_lines : (place : Place) (n : ℕ) → ArePlaced place n [] → counts place []
no_lines Between n p = refl
no_lines (Inside id told) n p = absurd (cc)
no_lines Anrs n p = refl

counted : (es : List Event) (place : Place) (n : ℕ) → ArePlaced place n es → counts place es
counted [] place n p = no_lines place n p
counted ((k, says) ∷ es) place n p = count_step place p.2.0 k says es p.2.1 (counted es p.2.0 (n + 1) p.2.2)

-- ---- in front of the first line

start_at : (bytes : List ℕ) (n : ℕ) (r : Result (List Event) ℕ) (es : List Event) → events_of bytes ≡ r → r ≡ Ok es → Places Between n r → Counted bytes [] 0 es
start_at bytes n (Ok fs) es is same p =
    let one : fs ≡ es = cc in
    let placed : ArePlaced Between n es = rw (← one) p in
    record {
      may = refl;
      all = rw (is, one, sections_tied es Between n placed) refl;
      counted = let c : counts Between es = counted es Between n placed in omega (arith, c);
    }
start_at bytes n (Err bad) es is same p = absurd (cc)

pub starts : (bytes : List ℕ) (r : Result (List Event) ℕ) → events_of bytes ≡ r → (es : List Event) → r ≡ Ok es → Counted bytes [] 0 es
starts bytes r is es same = let (n, p) = placed_of bytes in start_at bytes n r es is same (rw (← is) p)

pub starts_bad : (bytes : List ℕ) (r : Result (List Event) ℕ) → events_of bytes ≡ r → (line : ℕ) → r ≡ Err line → file_sections bytes ≡ Err line
starts_bad bytes r is line same = rw (is, same) refl

-- ---- one line more

-- the line that a reader returned
pub one_read : (old new : Unread) (o : Option Event) (e : Event) → o ≡ Some e → Goes old (Ok o) new → (old.events ≡ with_event e new.events) × (new.left < old.left)
one_read old new o e is goes = rw is at goes

before : (e : Event) (old new : Result (List Event) ℕ) (es : List Event) → old ≡ with_event e new → new ≡ Ok es → old ≡ Ok (e ∷ es)
before e old new es is same = is ∙ ap (with_event e) same

pub bad_before : (e : Event) (old new : Result (List Event) ℕ) (line : ℕ) → old ≡ with_event e new → new ≡ Err line → old ≡ Err line
bad_before e old new line is same = is ∙ ap (with_event e) same

-- no section begins
pub passed : (bytes : List ℕ) (opened : List Opened) (messages more n : ℕ) (says : StreamLine) (old new : Result (List Event) ℕ) (es : List Event)
    → ((id : ℕ) → says ≡ Channel id → ⊥) → more ≡ messages + message_at says → old ≡ with_event (n, says) new → new ≡ Ok es
    → ((fs : List Event) → old ≡ Ok fs → Counted bytes opened messages fs) → Counted bytes opened more es
passed bytes opened messages more n (Channel id) old new es no_section is line same h = absurd (no_section id refl)
passed bytes opened messages more n (Message m) old new es no_section is line same h =
    let c = h ((n, Message m) ∷ es) (before (n, Message m) old new es line same) in
    record { may = c.may; all = c.all; counted = omega (arith, is, c.counted) }
passed bytes opened messages more n (End id sent received finished) old new es no_section is line same h =
    let c = h ((n, End id sent received finished) ∷ es) (before (n, End id sent received finished) old new es line same) in
    record { may = c.may; all = c.all; counted = omega (arith, is, c.counted) }
passed bytes opened messages more n (Anr clock id seq) old new es no_section is line same h =
    let c = h ((n, Anr clock id seq) ∷ es) (before (n, Anr clock id seq) old new es line same) in
    record { may = c.may; all = c.all; counted = omega (arith, is, c.counted) }

opened_one : (s : Opened) (es : List Event) → s.lines.events ≡ Ok es → s.id < 65 → is_opened s ≡ true
opened_one s es good id = rw (good, lt-ltb s.id 65 id) refl

-- a section begins
pub begun : (bytes : List ℕ) (opened more : List Opened) (s : Opened) (messages n : ℕ) (old new : Result (List Event) ℕ) (es : List Event)
    → more ≡ opened ++ s ∷ [] → s.line ≡ n → s.lines.events ≡ new → s.id < 65 → old ≡ with_event (n, Channel s.id) new → new ≡ Ok es
    → ((fs : List Event) → old ≡ Ok fs → Counted bytes opened messages fs) → Counted bytes more messages es
begun bytes opened more s messages n old new es is line lines id read same h =
    let c = h ((n, Channel s.id) ∷ es) (before (n, Channel s.id) old new es read same) in
    let own : seen s ≡ record { id = s.id; line = n; messages = messages_left es } = rw (line, lines, same) refl in
    let sections : map seen more ++ sections_at es ≡ map seen opened ++ (record { id = s.id; line = n; messages = messages_left es } ∷ sections_at es) =
    rw (is, map-append seen opened (s ∷ []), append_assoc, own) refl in
    let messages_are : messages + count_messages es ≡ count_of (map seen opened ++ (record { id = s.id; line = n; messages = messages_left es } ∷ sections_at es)) =
    omega (arith, c.counted) in
    record {
      may = rw (is, list_all-append is_opened opened (s ∷ []), c.may, opened_one s es (lines ∙ same) id) refl;
      all = rw sections c.all;
      counted = rw sections messages_are;
    }

-- the line begins a section, or none
pub begins : (says : StreamLine) (id : ℕ) → channel_sent says ≡ Some id → says ≡ Channel id
begins (Channel other) id h = let same : other ≡ id = cc in ap (λ i. Channel i) same
begins (Message m) id h = absurd (cc)
begins (End e sent received finished) id h = absurd (cc)
begins (Anr clock other seq) id h = absurd (cc)

pub begins_none : (says : StreamLine) → channel_sent says ≡ None → (id : ℕ) → says ≡ Channel id → ⊥
begins_none (Channel other) h id e = absurd (cc)
begins_none (Message m) h id e = absurd (cc)
begins_none (End x sent received finished) h id e = absurd (cc)
begins_none (Anr clock other seq) h id e = absurd (cc)

-- a line that begins a section says one of 64 channels
said : (says : StreamLine) (id : ℕ) → says ≡ Channel id → CanSay says → id < 65
said (Channel other) id h can = let same : other ≡ id = cc in omega (arith, same, can)
said (Message m) id h can = absurd (cc)
said (End e sent received finished) id h can = absurd (cc)
said (Anr clock other seq) id h can = absurd (cc)

abbrev event : ℕ → StreamLine → Option Event
event n says = Some (n, says)

pub id_said : (o : Option Event) (n : ℕ) (says : StreamLine) (id : ℕ) → o ≡ Some (n, says) → IfSome o (λ e. CanSay e.1) → says ≡ Channel id → id < 65
id_said o n says id is can h =
    let there : IfSome (event n says) (λ e. CanSay e.1) = subst (λ (x : Option Event). IfSome x (λ e. CanSay e.1)) is can in said says id h there

-- after the last line
pub ends : (bytes : List ℕ) (opened : List Opened) (messages : ℕ) → Counted bytes opened messages []
    → ((are_opened opened ≡ true) × (messages ≡ count_of (map seen opened))) × (file_sections bytes ≡ Ok (map seen opened))
ends bytes opened messages h =
    let nothing : map seen opened ++ [] ≡ map seen opened = append-nil (map seen opened) in
    let total : messages + 0 ≡ count_of (map seen opened) = h.counted ∙ ap count_of nothing in
    ((h.may, omega (arith, total)), h.all ∙ ap (λ ss. Ok ss) nothing)

pub none_left : (old new : Unread) (o : Option Event) → o ≡ None → Goes old (Ok o) new → old.events ≡ Ok []
none_left old new o is goes = (rw is at goes).0
