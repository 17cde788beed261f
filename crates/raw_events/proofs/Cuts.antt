-- How a recording is cut into pieces makes no difference.
use Rattle.std.proofs.Common.{◌≡◌, ℕ, ◌<◌, List, [], ◌∷◌, ◌++◌, length, Result, Ok, Err, refl, ap, sym, ◌∙◌, cond, true, false, arith, ltb, ltb-true}
use Rattle.std.proofs.lemmas.List.{append_assoc, append-nil}
use Rattle.raw_events.specs.declared.event.RawEvent.{RawEvent}
use Rattle.raw_events.specs.declared.event.LineError.{LineError}
use Rattle.raw_events.specs.declared.event.LineError.TheVariants as errors
use Rattle.raw_events.specs.declared.line.Line.{Line}
use Rattle.raw_events.specs.declared.line.Line.TheVariants.{PassedOver, Event, Refused}
use Rattle.raw_events.specs.Line.{Known, judged}
use Rattle.raw_events.specs.Recording.{Answers, line_len, lines_of, events_from, next_number, with_line}
use Rattle.raw_events.specs.Pieces.{Parts, parts, last_line, with_told, tell, Place, going_on, Reader, fed, fed_at, finished, Does, answered, with_events, still, still_at}
use Rattle.raw_events.proofs.Parts.{parts_none, parts_kept, lines_are, lines_split, begun_line, begun_unended}
use Rattle.raw_events.proofs.Reading.{then', events_then, both_in_front}
use Rattle.raw_events.proofs.Steps.{judged_long}

too_long : (devices : Known) (n : ℕ) (begun rest : List ℕ) → line_len begun ≡ length begun → 4096 < length begun → events_from devices n (lines_of (begun ++ rest)) ≡ Err (errors.TooLong n)
too_long devices n begun rest h long =
    let first = begun_line begun rest h (omega arith) in
    rw (first.2, judged_long devices first.0 (omega (arith, first.3))) refl

goes_on : (devices : Known) (n : ℕ) (begun rest : List ℕ) → line_len begun ≡ length begun → events_from devices n (lines_of (begun ++ rest)) ≡ still_at devices (going_on (Ok n) begun) rest
goes_on devices n begun rest h =
    (elim (ltb 4096 (length begun)) as (λ v. ltb 4096 (length begun) ≡ v → events_from devices n (lines_of (begun ++ rest)) ≡ still_at devices (cond v (Err (errors.TooLong n)) (Ok (n, begun))) rest)
    [ true ↦ λ long. too_long devices n begun rest h (ltb-true 4096 (length begun) long) | false ↦ λ short. refl ]) refl

told_then : (devices : Known) (events : List RawEvent) (next : Result ℕ LineError) (begun rest : List ℕ) → line_len begun ≡ length begun
    → then' devices events next (lines_of (begun ++ rest)) ≡ with_events events (still_at devices (going_on next begun) rest)
told_then devices events (Err error) begun rest h = refl
told_then devices events (Ok n) begun rest h = ap (with_events events) (goes_on devices n begun rest h)

cut_at : (devices : Known) (place : Place) (piece rest : List ℕ) → still_at devices place (piece ++ rest) ≡ with_events (fed_at devices place piece).events (still_at devices (fed_at devices place piece).place rest)
cut_at devices (Err error) piece rest = refl
cut_at devices (Ok at) piece rest =
    let p : Parts = parts (at.1 ++ piece) in
    rw (← (append_assoc at.1 piece rest), lines_split (at.1 ++ piece) rest, events_then devices at.0 p.ended (lines_of (p.begun ++ rest)))
    (told_then devices (tell devices at.0 p.ended).events (tell devices at.0 p.ended).next p.begun rest (begun_unended (at.1 ++ piece)))

-- the reader behind a piece
abbrev pub behind_piece : Reader → List ℕ → Reader
behind_piece reader piece = record { devices = reader.devices; place = (fed reader piece).place }

-- what comes behind a piece gives what it gives to the reader behind it
pub cut : (reader : Reader) (piece rest : List ℕ) → still reader (piece ++ rest) ≡ with_events (fed reader piece).events (still (behind_piece reader piece) rest)
cut reader piece rest = cut_at reader.devices reader.place piece rest

refused_at : (devices : Known) (events : List RawEvent) (place : Place) (rest : List ℕ) (error : LineError) → Err error ≡ answered place → with_events events (still_at devices place rest) ≡ Err error
refused_at devices events (Err e) rest error h = let same : error ≡ e = cc in rw same refl
refused_at devices events (Ok at) rest error h = cc

-- a refusal is that of the whole recording, whatever comes behind it
pub refused_there : (reader : Reader) (piece rest : List ℕ) (error : LineError) → Err error ≡ answered (fed reader piece).place → still reader (piece ++ rest) ≡ Err error
refused_there reader piece rest error h = cut reader piece rest ∙ refused_at reader.devices (fed reader piece).events (fed reader piece).place rest error h

-- the bytes of the line that has begun have no newline
abbrev pub IsBegun : Place → Type 0
IsBegun (Err error) = Unit {0}
IsBegun (Ok at) = line_len at.1 ≡ length at.1

going_on_begun : (next : Result ℕ LineError) (begun : List ℕ) → line_len begun ≡ length begun → IsBegun (going_on next begun)
going_on_begun (Err error) begun h = tt
going_on_begun (Ok n) begun h = elim (ltb 4096 (length begun)) as (λ v. IsBegun (cond v (Err (errors.TooLong n)) (Ok (n, begun)))) [ true ↦ tt | false ↦ h ]

pub fed_begun : (devices : Known) (place : Place) (piece : List ℕ) → IsBegun (fed_at devices place piece).place
fed_begun devices (Err error) piece = tt
fed_begun devices (Ok at) piece = going_on_begun (tell devices at.0 (parts (at.1 ++ piece)).ended).next (parts (at.1 ++ piece)).begun (begun_unended (at.1 ++ piece))

-- what the end gives
abbrev pub Ends : Result (Unit {0}) LineError → Result (List RawEvent) LineError → List RawEvent → Type 0
Ends (Ok done) read events = read ≡ Ok events
Ends (Err error) read events = read ≡ Err error

last_ends : (devices : Known) (line : Line) (n : ℕ) → Ends (answered (going_on (with_told line n (record { events = []; next = Ok (next_number n) })).next [])) (with_line line n (Ok [])) (with_told line n (record { events = []; next = Ok (next_number n) })).events
last_ends devices PassedOver n = refl
last_ends devices (Event event) n = refl
last_ends devices (Refused cause) n = refl

whole_line : (b : ℕ) (bs : List ℕ) → line_len (b ∷ bs) ≡ length (b ∷ bs) → lines_of ((b ∷ bs) ++ []) ≡ (b ∷ bs) ∷ []
whole_line b bs h = ap lines_of (append-nil (b ∷ bs)) ∙ (lines_are (b ∷ bs) ∙ ap (λ p. p.ended ++ last_line p.begun) (parts_none (b ∷ bs) h))

ended_line : (b : ℕ) (bs : List ℕ) → line_len (b ∷ bs) ≡ length (b ∷ bs) → parts ((b ∷ bs) ++ 10 ∷ []) ≡ record { ended = (b ∷ bs) ∷ []; begun = [] }
ended_line b bs h = parts_kept (b ∷ bs) (10 ∷ []) h ∙ ap (λ line. record { ended = line ∷ []; begun = [] }) (append-nil (b ∷ bs))

ends_at : (devices : Known) (n : ℕ) (kept : List ℕ) → line_len kept ≡ length kept → Ends (answered (finished (record { devices = devices; place = Ok (n, kept) })).place) (still_at devices (Ok (n, kept)) []) (finished (record { devices = devices; place = Ok (n, kept) })).events
ends_at devices n [] h = refl
ends_at devices n (b ∷ bs) h = rw (ended_line b bs h, whole_line b bs h) (last_ends devices (judged devices (b ∷ bs)) n)

pub ends : (devices : Known) (place : Place) → IsBegun place → Ends (answered (finished (record { devices = devices; place = place })).place) (still_at devices place []) (finished (record { devices = devices; place = place })).events
ends devices (Err error) h = refl
ends devices (Ok at) h = ends_at devices at.0 at.1 h

module _ (old new : Reader) (before after : List RawEvent) (all : Result (List RawEvent) LineError) where
  -- a piece was read: what is left gives what the whole recording gives
  pub piece_read : (piece rest : List ℕ) → Does (Ok tt) (fed old piece) old new before after → with_events before (still old (piece ++ rest)) ≡ all → with_events after (still new rest) ≡ all
  piece_read piece rest d h =
      rw (d.2, d.1) (both_in_front before (fed old piece).events (still (behind_piece old piece) rest) ∙ (ap (with_events before) (sym (cut old piece rest)) ∙ h))

  pub begun_there : (piece : List ℕ) → Does (Ok tt) (fed old piece) old new before after → IsBegun new.place
  begun_there piece d = rw (d.1) (fed_begun old.devices old.place piece)

  refusal_of_all : (read : Result (List RawEvent) LineError) (error : LineError) → read ≡ Err error → with_events before read ≡ all → all ≡ Err error
  refusal_of_all read error e h = sym h ∙ ap (with_events before) e

  pub piece_refused : (piece rest : List ℕ) (error : LineError) → Does (Err error) (fed old piece) old new before after → with_events before (still old (piece ++ rest)) ≡ all → Answers (Err error) all
  piece_refused piece rest (errors.BadLine n) d h = refusal_of_all (still old (piece ++ rest)) (errors.BadLine n) (refused_there old piece rest (errors.BadLine n) d.0) h
  piece_refused piece rest (errors.NoMoment n) d h = refusal_of_all (still old (piece ++ rest)) (errors.NoMoment n) (refused_there old piece rest (errors.NoMoment n) d.0) h
  piece_refused piece rest (errors.TooLong n) d h = refusal_of_all (still old (piece ++ rest)) (errors.TooLong n) (refused_there old piece rest (errors.TooLong n) d.0) h
  piece_refused piece rest errors.Memory d h = tt

  end : (answer : Result (Unit {0}) LineError) → IsBegun old.place → answer ≡ answered (finished old).place → Ends answer (still old []) (finished old).events
  end answer begun e = rw e (ends old.devices old.place begun)

  pub end_read : IsBegun old.place → Does (Ok tt) (finished old) old new before after → with_events before (still old []) ≡ all → all ≡ Ok after
  end_read begun d h = rw (d.2) (sym h ∙ ap (with_events before) (end (Ok tt) begun d.0))

  pub end_refused : (error : LineError) → IsBegun old.place → Does (Err error) (finished old) old new before after → with_events before (still old []) ≡ all → Answers (Err error) all
  end_refused (errors.BadLine n) begun d h = refusal_of_all (still old []) (errors.BadLine n) (end (Err (errors.BadLine n)) begun d.0) h
  end_refused (errors.NoMoment n) begun d h = refusal_of_all (still old []) (errors.NoMoment n) (end (Err (errors.NoMoment n)) begun d.0) h
  end_refused (errors.TooLong n) begun d h = refusal_of_all (still old []) (errors.TooLong n) (end (Err (errors.TooLong n)) begun d.0) h
  end_refused errors.Memory begun d h = tt
