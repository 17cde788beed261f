-- What a recording gives, line by line, where no line is refused.
use Rattle.std.proofs.Common.{◌≡◌, ℕ, ◌≤◌, List, [], ◌∷◌, ◌++◌, length, Result, Ok, Err, refl, arith}
use Rattle.raw_events.specs.declared.event.RawEvent.{RawEvent}
use Rattle.raw_events.specs.declared.event.LineError.{LineError}
use Rattle.raw_events.specs.declared.line.Line.{Line}
use Rattle.raw_events.specs.declared.line.Line.TheVariants.{PassedOver, Event, Refused}
use Rattle.raw_events.specs.Line.{Known, judged}
use Rattle.raw_events.specs.Recording.{with_line, next_number, events_from}

-- A line gives one event or none, whatever its number, and the lines behind it give the others.
pub record GivesFirst (devices : Known) (n : ℕ) (line : List ℕ) (lines : List (List ℕ)) (events : List RawEvent) : Type 0 where
  pub front : List RawEvent
  pub behind : List RawEvent
  pub alone : events_from devices 1 (line ∷ []) ≡ Ok front
  pub at_most_one : length front ≤ 1
  pub others : events_from devices (next_number n) lines ≡ Ok behind
  pub joined : events ≡ front ++ behind

-- the same of what a line says
abbrev Parted : Line → Result (List RawEvent) LineError → List RawEvent → Type 0
Parted line read events =
    (front : List RawEvent) × (behind : List RawEvent) × (with_line line 1 (Ok []) ≡ Ok front) × (length front ≤ 1) × (read ≡ Ok behind) × (events ≡ front ++ behind)

part : (line : Line) (n : ℕ) (read : Result (List RawEvent) LineError) (events : List RawEvent) → with_line line n read ≡ Ok events → Parted line read events
part PassedOver n read events h = ([], events, refl, omega arith, h, refl)
part (Event event) n (Ok more) events h = (event ∷ [], more, refl, omega arith, refl, cc)
part (Event event) n (Err error) events h = cc
part (Refused cause) n read events h = cc

-- where the lines from line n on are all read, so is the first, and so are those behind it
pub gives_first : (devices : Known) (n : ℕ) (line : List ℕ) (lines : List (List ℕ)) (events : List RawEvent) → events_from devices n (line ∷ lines) ≡ Ok events
    → GivesFirst devices n line lines events
gives_first devices n line lines events h =
    let p = part (judged devices line) n (events_from devices (next_number n) lines) events h in
    record { front = p.0; behind = p.1; alone = p.2; at_most_one = p.3; others = p.4; joined = p.5 }
