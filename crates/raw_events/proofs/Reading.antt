-- The events of a recording, from what its lines say.
use Rattle.std.proofs.Common.{◌≡◌, ℕ, ◌++◌, ◌∷◌, [], List, Result, Ok, Err, ap, sym, refl, ◌∙◌}
use Rattle.std.proofs.lemmas.List.{append_assoc, append-nil}
use Rattle.raw_events.specs.declared.event.RawEvent.{RawEvent}
use Rattle.raw_events.specs.declared.event.LineError.{LineError}
use Rattle.raw_events.specs.declared.event.LineError.TheVariants as errors
use Rattle.raw_events.specs.declared.line.Line.{Line}
use Rattle.raw_events.specs.declared.line.Line.TheVariants.{PassedOver, Event, Refused}
use Rattle.raw_events.specs.Line.{Known, judged}
use Rattle.raw_events.specs.Recording.{with_line, next_number, events_from, recorded, Answers}
use Rattle.raw_events.specs.Pieces.{Told, with_told, tell, parts, last_line, with_events}
use Rattle.raw_events.specs.Kept.{behind, TellsLines}
use Rattle.raw_events.proofs.Parts.{lines_are}

pub nothing_in_front : (read : Result (List RawEvent) LineError) → with_events [] read ≡ read
nothing_in_front (Ok events) = refl
nothing_in_front (Err error) = refl

pub both_in_front : (first second : List RawEvent) (read : Result (List RawEvent) LineError) → with_events (first ++ second) read ≡ with_events first (with_events second read)
both_in_front first second (Ok events) = ap (λ es. Ok es) (append_assoc first second events)
both_in_front first second (Err error) = refl

-- what lines say, in front of what the lines behind them give
abbrev pub then' : Known → List RawEvent → Result ℕ LineError → List (List ℕ) → Result (List RawEvent) LineError
then' devices events (Ok n) lines = with_events events (events_from devices n lines)
then' devices events (Err error) lines = Err error

event_then : (event : RawEvent) (events : List RawEvent) (n : ℕ) (read : Result (List RawEvent) LineError) → with_line (Event event) n (with_events events read) ≡ with_events (event ∷ events) read
event_then event events n (Ok more) = refl
event_then event events n (Err error) = refl

line_then : (devices : Known) (line : Line) (n : ℕ) (events : List RawEvent) (next : Result ℕ LineError) (lines : List (List ℕ))
    → with_line line n (then' devices events next lines) ≡ then' devices (with_told line n (record { events = events; next = next })).events (with_told line n (record { events = events; next = next })).next lines
line_then devices PassedOver n events next lines = refl
line_then devices (Refused cause) n events next lines = refl
line_then devices (Event event) n events (Err error) lines = refl
line_then devices (Event event) n events (Ok m) lines = event_then event events n (events_from devices m lines)

pub events_then : (devices : Known) (n : ℕ) (lines more : List (List ℕ)) → events_from devices n (lines ++ more) ≡ then' devices (tell devices n lines).events (tell devices n lines).next more
events_then devices n [] more = sym (nothing_in_front (events_from devices n more))
events_then devices n (line ∷ lines) more =
    rw (events_then devices (next_number n) lines more)
    (line_then devices (judged devices line) n (tell devices (next_number n) lines).events (tell devices (next_number n) lines).next more)

-- a recording that is read at once
pub recorded_then : (devices : Known) (bytes : List ℕ) → recorded devices bytes ≡ then' devices (tell devices 1 (parts bytes).ended).events (tell devices 1 (parts bytes).ended).next (last_line (parts bytes).begun)
unfolding recorded
recorded_then devices bytes = rw (lines_are bytes) (events_then devices 1 (parts bytes).ended (last_line (parts bytes).begun))

lines_alone : (devices : Known) (n : ℕ) (lines : List (List ℕ)) → events_from devices n lines ≡ then' devices (tell devices n lines).events (tell devices n lines).next []
lines_alone devices n lines = ap (events_from devices n) (sym (append-nil lines)) ∙ events_then devices n lines []

refused_answer : (error : LineError) (told : Told) (before after : List RawEvent) (read : Result (List RawEvent) LineError) → TellsLines (Err error) told before after → (told.next ≡ Err error → read ≡ Err error) → Answers (Err error) read
refused_answer (errors.BadLine n) told before after read t h = h (sym (ap (λ s. s.next) t))
refused_answer (errors.NoMoment n) told before after read t h = h (sym (ap (λ s. s.next) t))
refused_answer (errors.TooLong n) told before after read t h = h (sym (ap (λ s. s.next) t))
refused_answer errors.Memory told before after read t h = tt

-- a line that a newline ended was refused
pub first_refused : (devices : Known) (bytes : List ℕ) (error : LineError) (after : List RawEvent) → TellsLines (Err error) (tell devices 1 (parts bytes).ended) [] after → Answers (Err error) (recorded devices bytes)
first_refused devices bytes error after t =
    refused_answer error (tell devices 1 (parts bytes).ended) [] after (recorded devices bytes) t (λ e. recorded_then devices bytes ∙ (rw e refl))

module _ (devices : Known) (bytes : List ℕ) (n : ℕ) (mid : List RawEvent)
    (told : record { events = mid; next = Ok n } ≡ behind [] (tell devices 1 (parts bytes).ended)) where
  all : recorded devices bytes ≡ with_events mid (events_from devices n (last_line (parts bytes).begun))
  all = recorded_then devices bytes ∙ (rw (← (ap (λ s. s.next) told), ← (ap (λ s. s.events) told)) refl)

  last : recorded devices bytes ≡ with_events mid (then' devices (tell devices n (last_line (parts bytes).begun)).events (tell devices n (last_line (parts bytes).begun)).next [])
  last = all ∙ ap (with_events mid) (lines_alone devices n (last_line (parts bytes).begun))

  pub last_refused : (error : LineError) (after : List RawEvent) → TellsLines (Err error) (tell devices n (last_line (parts bytes).begun)) mid after → Answers (Err error) (recorded devices bytes)
  last_refused error after t =
      refused_answer error (tell devices n (last_line (parts bytes).begun)) mid after (recorded devices bytes) t (λ e. last ∙ (rw e refl))

  pub all_told : (m : ℕ) (after : List RawEvent) → TellsLines (Ok m) (tell devices n (last_line (parts bytes).begun)) mid after → recorded devices bytes ≡ Ok after
  all_told m after t =
      last ∙ (rw (← (ap (λ s. s.next) t), ap (λ s. s.events) t, append-nil (tell devices n (last_line (parts bytes).begun)).events) refl)
