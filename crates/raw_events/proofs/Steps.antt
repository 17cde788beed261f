-- What a piece gives, from what its lines say.
use Rattle.std.proofs.Common.{◌≡◌, ℕ, ◌<◌, ◌≤◌, List, ◌∷◌, ◌++◌, length, Result, Ok, Err, refl, ap, sym, ◌∙◌, lt-ltb, le-ltb}
use Rattle.std.proofs.Math.Seq.{take-length, take-append_seam}
use Rattle.std.proofs.lemmas.List.{append-nil}
use Rattle.raw_events.specs.declared.event.RawEvent.{RawEvent}
use Rattle.raw_events.specs.declared.event.LineError.{LineError}
use Rattle.raw_events.specs.declared.event.LineError.TheVariants as errors
use Rattle.raw_events.specs.declared.line.Cause.TheVariants.{TooLong}
use Rattle.raw_events.specs.declared.line.Line.TheVariants.{Refused}
use Rattle.raw_events.specs.Line.{Known, judged}
use Rattle.raw_events.specs.Recording.{next_number}
use Rattle.raw_events.specs.Pieces.{Told, tell, going_on, Step, from_parts, Place}
use Rattle.raw_events.specs.Kept.{behind, TellsLine, TellsLines, ReadsPiece}
use Rattle.raw_events.proofs.Telling.{begins_both, line_begins}

abbrev pub step_of : Told → List ℕ → Step
step_of told begun = record { events = told.events; place = going_on told.next begun }

pub going_on_long : (n : ℕ) (begun : List ℕ) → 4096 < length begun → going_on (Ok n) begun ≡ Err (errors.TooLong n)
going_on_long n begun h = rw (lt-ltb 4096 (length begun) h) refl

pub going_on_short : (n : ℕ) (begun : List ℕ) → length begun ≤ 4096 → going_on (Ok n) begun ≡ Ok (n, begun)
going_on_short n begun h = rw (le-ltb 4096 (length begun) h) refl

-- lines were sent, and the line behind them goes on
pub step_on : (told : Told) (n : ℕ) (begun keeps kept : List ℕ) (before after : List RawEvent) → record { events = after; next = Ok n } ≡ behind before told → length begun ≤ 4096 → keeps ≡ begun
    → ReadsPiece (Ok n) (step_of told begun) before after kept keeps
step_on told n begun keeps kept before after t h k =
    (ap (λ s. s.events) t, rw (k, ← (ap (λ s. s.next) t)) (going_on_short n begun h))

-- or is too long
pub step_too_long : (told : Told) (n : ℕ) (begun keeps kept : List ℕ) (before after : List RawEvent) → record { events = after; next = Ok n } ≡ behind before told → 4096 < length begun
    → ReadsPiece (Err (errors.TooLong n)) (step_of told begun) before after kept keeps
step_too_long told n begun keeps kept before after t h =
    (ap (λ s. s.events) t, rw (← (ap (λ s. s.next) t)) (going_on_long n begun h))

-- a line was refused, or memory ran out
pub step_stopped : (error : LineError) (told : Told) (begun kept : List ℕ) (before after : List RawEvent) → TellsLines (Err error) told before after → ReadsPiece (Err error) (step_of told begun) before after kept kept
step_stopped (errors.BadLine n) told begun kept before after t = (ap (λ s. s.events) t, rw (← (ap (λ s. s.next) t)) refl)
step_stopped (errors.NoMoment n) told begun kept before after t = (ap (λ s. s.events) t, rw (← (ap (λ s. s.next) t)) refl)
step_stopped (errors.TooLong n) told begun kept before after t = (ap (λ s. s.events) t, rw (← (ap (λ s. s.next) t)) refl)
step_stopped errors.Memory told begun kept before after t = (t, take-length kept)

pub judged_long : (devices : Known) (line : List ℕ) → 4096 < length line → judged devices line ≡ Refused TooLong
unfolding judged
judged_long devices line h = rw (lt-ltb 4096 (length line) h) refl

-- a line that ended is too long
pub ended_too_long : (devices : Known) (n : ℕ) (line begun keeps kept : List ℕ) (lines : List (List ℕ)) (before : List RawEvent) → 4096 < length line
    → ReadsPiece (Err (errors.TooLong n)) (from_parts devices n (record { ended = line ∷ lines; begun = begun })) before before kept keeps
ended_too_long devices n line begun keeps kept lines before h = rw (judged_long devices line h) (sym (append-nil before), refl)

-- a line that ended was refused, or memory ran out
pub ended_stopped : (devices : Known) (n : ℕ) (error : LineError) (line begun kept more : List ℕ) (lines : List (List ℕ)) (before after : List RawEvent) → TellsLine (Err error) (judged devices line) n before after
    → ReadsPiece (Err error) (from_parts devices n (record { ended = line ∷ lines; begun = begun })) before after kept (kept ++ more)
ended_stopped devices n (errors.BadLine m) line begun kept more lines before after t =
    let e = t (tell devices (next_number n) lines) in (ap (λ s. s.events) e, rw (← (ap (λ s. s.next) e)) refl)
ended_stopped devices n (errors.NoMoment m) line begun kept more lines before after t =
    let e = t (tell devices (next_number n) lines) in (ap (λ s. s.events) e, rw (← (ap (λ s. s.next) e)) refl)
ended_stopped devices n (errors.TooLong m) line begun kept more lines before after t =
    let e = t (tell devices (next_number n) lines) in (ap (λ s. s.events) e, rw (← (ap (λ s. s.next) e)) refl)
ended_stopped devices n errors.Memory line begun kept more lines before after t = (rw t (take-length before), take-append_seam kept more)

-- what the lines behind a line give, in front of which it stands
module _ (devices : Known) (n next : ℕ) (line begun kept more keeps : List ℕ) (lines : List (List ℕ)) (before mid after : List RawEvent)
    (told : TellsLine (Ok next) (judged devices line) n before mid) where
  both : behind mid (tell devices next lines) ≡ behind before (tell devices n (line ∷ lines))
  both = rw (told.0) (told.1 (tell devices (next_number n) lines))

  events : after ≡ mid ++ (tell devices next lines).events → after ≡ before ++ (tell devices n (line ∷ lines)).events
  events h = h ∙ ap (λ s. s.events) both

  place : (p : Place) → going_on (tell devices next lines).next begun ≡ p → going_on (tell devices n (line ∷ lines)).next begun ≡ p
  place p h = rw (← (ap (λ s. s.next) both)) h

  pub behind_line : (result : Result ℕ LineError) → ReadsPiece result (from_parts devices next (record { ended = lines; begun = begun })) mid after (kept ++ more) keeps
      → ReadsPiece result (from_parts devices n (record { ended = line ∷ lines; begun = begun })) before after kept keeps
  behind_line (Ok m) r = (events r.0, place (Ok (m, keeps)) r.1)
  behind_line (Err (errors.BadLine m)) r = (events r.0, place (Err (errors.BadLine m)) r.1)
  behind_line (Err (errors.NoMoment m)) r = (events r.0, place (Err (errors.NoMoment m)) r.1)
  behind_line (Err (errors.TooLong m)) r = (events r.0, place (Err (errors.TooLong m)) r.1)
  behind_line (Err errors.Memory) r = (
    begins_both before mid after (line_begins before before mid (judged devices line) next n told (take-length before)) r.0,
    begins_both kept (kept ++ more) keeps (take-append_seam kept more) r.1,
  )
