-- A stream file that is judged line by line is judged as its streams are.
use Rattle.std.proofs.Common.{◌≡◌, ℕ, suc, ◌+◌, ◌<◌, ◌==◌, ◌&&◌, Bool, true, false, if◌then◌else◌, List, ◌∷◌, length, Option, Some, None, Result, Ok, Err, ap, sym, ◌∙◌, refl, arith, []}
use Rattle.std.specs.Option.{option_or}
use Rattle.input_types.specs.declared.message.Message.{Message as Told}
use Rattle.input_types.specs.StreamRule.{is_well_formed}
use Rattle.stream_text.specs.declared.stream_line.StreamLine.{StreamLine}
use Rattle.stream_text.specs.declared.stream_line.StreamLine.TheVariants.{Channel, Message, End, Anr}
use Rattle.stream_text.specs.declared.reading.stream_lines.Place.{Place}
use Rattle.stream_text.specs.declared.reading.stream_lines.Place.TheVariants.{Between, Section, Anrs}
use Rattle.stream_text.specs.Number.{◌>>=◌}
use Rattle.text_lines.specs.Lines.{Line, lines_of}
use Rattle.stream_text.specs.StreamLine.{line_of}
use Rattle.stream_text.specs.StreamFile.{Event, follow, may_end, told, with_event, numbered_line, events_from, events_behind, events_of, messages_of, streams_of, streams_in, next_line, Unread, Goes}
use Rattle.stream_text.specs.OrderText.{order_passed}
use Rattle.command_answers.specs.Verify.{judged, verdict}
use Rattle.stream_judge.specs.Breaks.{break_from, first_break}
use Rattle.stream_judge.specs.Sections.{messages_at, messages_in, messages_left, sections_at, sections_left, sent_after}
use Rattle.stream_judge.proofs.Sections.{or_again}
use Rattle.command_answers.specs.Judging.{break_at, Known, Judges, breaks, judged_on}

-- Judging the remaining lines gives what judging their streams gives: after these messages of the open section, or
-- after none.
record Ties (found by_lines : Option ℕ) (messages by_line : ℕ) (channels sections : ℕ) : Type 0 where
  breaks_are : by_lines ≡ found
  messages_are : by_line ≡ messages
  channels_are : sections ≡ channels

abbrev Outside : List Told → List Event → Type 0
Outside past es = Ties (first_break (streams_of es)) (breaks past es) (messages_in (streams_of es)) (messages_left es) (length (streams_of es)) (sections_left es)

abbrev Inside : List Told → ℕ → List Event → Type 0
Inside past n es =
    Ties (option_or (break_from n past (messages_of es)) (first_break (streams_of es))) (breaks past es)
    (length (messages_of es) + messages_in (streams_of es)) (messages_left es) (length (streams_of es)) (sections_left es)

abbrev TiesAt : Place → List Told → ℕ → List Event → Type 0
TiesAt Between past n es = Outside past es
TiesAt (Section id count) past n es = Inside past n es
TiesAt Anrs past n es = Outside past es

abbrev TiesOf : Place → List Told → ℕ → Result (List Event) ℕ → Type 0
TiesOf place past n (Ok es) = TiesAt place past n es
TiesOf place past n (Err bad) = Unit {0}

-- a section begins
begins : (past : List Told) (n id : ℕ) (r : Result (List Event) ℕ) → TiesOf (Section id 0) [] (n + 1) r → TiesOf Between past n (with_event (n, Channel id) r)
begins past n id (Err bad) h = tt
begins past n id (Ok es) h =
    let m : 0 + messages_left es ≡ length (messages_of es) + messages_in (streams_of es) = omega (arith, h.messages_are)
    in let c : 1 + sections_left es ≡ suc (length (streams_of es)) = omega (arith, h.channels_are)
    in record { breaks_are = h.breaks_are; messages_are = m; channels_are = c }

-- an ANR, the first one or another
first_anr : (past : List Told) (n clock id seq : ℕ) (r : Result (List Event) ℕ) → TiesOf Anrs past (n + 1) r → TiesOf Between past n (with_event (n, Anr clock id seq) r)
first_anr past n clock id seq (Err bad) h = tt
first_anr past n clock id seq (Ok es) h =
    let m : 0 + messages_left es ≡ messages_in (streams_of es) = omega (arith, h.messages_are)
    in let c : 0 + sections_left es ≡ length (streams_of es) = omega (arith, h.channels_are)
    in record { breaks_are = h.breaks_are; messages_are = m; channels_are = c }

names : (past : List Told) (n clock id seq : ℕ) (r : Result (List Event) ℕ) → TiesOf Anrs past (n + 1) r → TiesOf Anrs past n (with_event (n, Anr clock id seq) r)
names past n clock id seq (Err bad) h = tt
names past n clock id seq (Ok es) h =
    let m : 0 + messages_left es ≡ messages_in (streams_of es) = omega (arith, h.messages_are)
    in let c : 0 + sections_left es ≡ length (streams_of es) = omega (arith, h.channels_are)
    in record { breaks_are = h.breaks_are; messages_are = m; channels_are = c }

-- a message, which may come or not
one_break : (n : ℕ) (b : Bool) (later found rest : Option ℕ) → later ≡ option_or found rest
    → option_or (if b then None else Some n) later ≡ option_or (if b then found else Some n) rest
one_break n true later found rest h = h
one_break n false later found rest h = refl

sends : (past : List Told) (n id count : ℕ) (m : Told) (r : Result (List Event) ℕ) → TiesOf (Section id (count + 1)) (m ∷ past) (n + 1) r
    → TiesOf (Section id count) past n (with_event (n, Message m) r)
sends past n id count m (Err bad) h = tt
sends past n id count m (Ok es) h =
    let b : breaks past ((n, Message m) ∷ es) ≡ option_or (break_from n past (m ∷ messages_of es)) (first_break (streams_of es)) =
    one_break n (is_well_formed (m ∷ past)) (breaks (m ∷ past) es) (break_from (n + 1) (m ∷ past) (messages_of es)) (first_break (streams_of es)) h.breaks_are
    in let k : 1 + messages_left es ≡ suc (length (messages_of es)) + messages_in (streams_of es) = omega (arith, h.messages_are)
    in let c : 0 + sections_left es ≡ length (streams_of es) = omega (arith, h.channels_are)
    in record { breaks_are = b; messages_are = k; channels_are = c }

-- a section ends
ends : (past : List Told) (n id count e sent received finished : ℕ) (r : Result (List Event) ℕ) → TiesOf Between past (n + 1) r
    → TiesOf (Section id count) past n (with_event (n, End e sent received finished) r)
ends past n id count e sent received finished (Err bad) h = tt
ends past n id count e sent received finished (Ok es) h =
    let m : 0 + messages_left es ≡ 0 + messages_in (streams_of es) = omega (arith, h.messages_are)
    in let c : 0 + sections_left es ≡ length (streams_of es) = omega (arith, h.channels_are)
    in record { breaks_are = h.breaks_are; messages_are = m; channels_are = c }

-- the lines from here on
abbrev Behind : ℕ → List Line → Type 0
Behind n lines = (next : Place) (past : List Told) → TiesOf next past (n + 1) (events_from next (n + 1) lines)

abbrev step_from : ℕ → List Line → Option (StreamLine × Place) → Result (List Event) ℕ
step_from n lines o = numbered_line n o (λ next. events_from next (n + 1) lines)

message_step : (past : List Told) (n id count : ℕ) (m : Told) (lines : List Line) (b : Bool) → Behind n lines
    → TiesOf (Section id count) past n (step_from n lines ((if b then Some (Section id (count + 1)) else None) >>= λ next. Some (Message m, next)))
message_step past n id count m lines true behind = sends past n id count m (events_from (Section id (count + 1)) (n + 1) lines) (behind (Section id (count + 1)) (m ∷ past))
message_step past n id count m lines false behind = tt

end_step : (past : List Told) (n id count e sent received finished : ℕ) (lines : List Line) (b : Bool) → Behind n lines
    → TiesOf (Section id count) past n (step_from n lines ((if b then Some Between else None) >>= λ next. Some (End e sent received finished, next)))
end_step past n id count e sent received finished lines true behind = ends past n id count e sent received finished (events_from Between (n + 1) lines) (behind Between past)
end_step past n id count e sent received finished lines false behind = tt

-- one line
line_step : (place : Place) (past : List Told) (n : ℕ) (says : StreamLine) (lines : List Line) → Behind n lines
    → TiesOf place past n (step_from n lines (follow place says >>= λ next. Some (says, next)))
line_step Between past n (Channel id) lines behind = begins past n id (events_from (Section id 0) (n + 1) lines) (behind (Section id 0) [])
line_step Between past n (Message m) lines behind = tt
line_step Between past n (End e sent received finished) lines behind = tt
line_step Between past n (Anr clock id seq) lines behind = first_anr past n clock id seq (events_from Anrs (n + 1) lines) (behind Anrs past)
line_step (Section id count) past n (Channel other) lines behind = tt
line_step (Section id count) past n (Message m) lines behind = message_step past n id count m lines (m.seq == count + 1) behind
line_step (Section id count) past n (End e sent received finished) lines behind =
    end_step past n id count e sent received finished lines ((e == id) && (sent == count)) behind
line_step (Section id count) past n (Anr clock other seq) lines behind = tt
line_step Anrs past n (Channel id) lines behind = tt
line_step Anrs past n (Message m) lines behind = tt
line_step Anrs past n (End e sent received finished) lines behind = tt
line_step Anrs past n (Anr clock id seq) lines behind = names past n clock id seq (events_from Anrs (n + 1) lines) (behind Anrs past)

read_step : (place : Place) (past : List Told) (n : ℕ) (o : Option StreamLine) (lines : List Line) → Behind n lines
    → TiesOf place past n (step_from n lines (o >>= λ says. follow place says >>= λ next. Some (says, next)))
read_step place past n None lines behind = tt
read_step place past n (Some says) lines behind = line_step place past n says lines behind

ended_step : (place : Place) (past : List Told) (n : ℕ) (text : List ℕ) (b : Bool) (lines : List Line) → Behind n lines
    → TiesOf place past n (step_from n lines (told place (text, b)))
ended_step place past n text true lines behind = read_step place past n (line_of text) lines behind
ended_step place past n text false lines behind = tt

no_lines : (place : Place) (past : List Told) (n : ℕ) → TiesOf place past n (if may_end place then Ok [] else Err n)
no_lines Between past n = record { breaks_are = refl; messages_are = refl; channels_are = refl }
no_lines (Section id count) past n = tt
no_lines Anrs past n = record { breaks_are = refl; messages_are = refl; channels_are = refl }

ties : (lines : List Line) (place : Place) (past : List Told) (n : ℕ) → TiesOf place past n (events_from place n lines)
ties [] place past n = no_lines place past n
ties (line ∷ lines) place past n = ended_step place past n line.0 line.1 lines (λ next later. ties lines next later (n + 1))

-- nothing is known in front of the first line
pub record IsFresh (j : Known) : Type 0 where
  pub none : j.broken ≡ None
  pub channels : j.channels ≡ 0
  pub messages : j.messages ≡ 0

judged_lines : (j : Known) → IsFresh j → (r : Result (List Event) ℕ) → TiesOf Between [] 0 r → judged_on j [] r ≡ judged (streams_in r)
judged_lines j fresh (Err bad) h = refl
judged_lines j fresh (Ok es) h =
    let b : option_or j.broken (breaks [] es) ≡ first_break (streams_of es) = rw fresh.none h.breaks_are
    in let c : j.channels + sections_left es ≡ length (streams_of es) = omega (arith, fresh.channels, h.channels_are)
    in let m : j.messages + messages_left es ≡ messages_in (streams_of es) = omega (arith, fresh.messages, h.messages_are)
    in rw (b, c, m) refl

judged_front : (j : Known) → IsFresh j → (front : Result (ℕ × List Line) ℕ) → judged_on j [] (events_behind front) ≡ judged (streams_in (events_behind front))
judged_front j fresh (Err bad) = refl
judged_front j fresh (Ok front) = judged_lines j fresh (events_from Between front.0 front.1) (ties front.1 Between [] front.0)

-- a judge that knows nothing yet and all lines behind the order
pub at_start : (j : Known) (bytes : List ℕ) → IsFresh j → judged_on j [] (events_of bytes) ≡ verdict bytes
unfolding events_of
at_start j bytes fresh = judged_front j fresh (order_passed (lines_of bytes))

-- one line more
pub after_line : (past : List Told) (n : ℕ) (line : StreamLine) (old new : Known) (r : Result (List Event) ℕ) → Judges past n line old new
    → judged_on old past (with_event (n, line) r) ≡ judged_on new (sent_after past line) r
after_line past n line old new (Err bad) h = refl
after_line past n line old new (Ok es) h =
    let b : option_or old.broken (option_or (break_at past n line) (breaks (sent_after past line) es)) ≡ option_or new.broken (breaks (sent_after past line) es) =
    sym (or_again old.broken (break_at past n line) (breaks (sent_after past line) es)) ∙ ap (λ o. option_or o (breaks (sent_after past line) es)) (sym h.broken)
    in let c : old.channels + (sections_at line + sections_left es) ≡ new.channels + sections_left es = omega (arith, h.channels)
    in let m : old.messages + (messages_at line + messages_left es) ≡ new.messages + messages_left es = omega (arith, h.messages)
    in rw (b, c, m) refl

-- the line whose number a reader answered, and one byte at least for it
pub one_read : (old new : Unread) (o : Option ℕ) (n : ℕ) (line : StreamLine) → o ≡ Some n → Goes old (next_line (Ok o) line) new
    → (old.events ≡ with_event (n, line) new.events) × (new.left < old.left)
one_read old new o n line is goes = rw is at goes
