-- What was counted of a recording that comes in pieces. Tallies take lines and events with the newest first.
use Rattle.std.specs.Prelude.{◌≡◌, ℕ, List, ◌++◌, length, reverse, Result, Ok, Err}
use Rattle.raw_events.specs.declared.event.RawEvent.{RawEvent}
use Rattle.raw_events.specs.declared.event.LineError.{LineError}
use Rattle.raw_events.specs.Line.{Known}
use Rattle.raw_events.specs.Recording.{Answers, line_len, lines_of, recorded}
use Rattle.raw_events.specs.Pieces.{Place, Reader, still, with_events}
use Rattle.device_reader.specs.Cooked.{DevicePlan}
use Rattle.recording_counts.specs.Lines.{AreRead}
use Rattle.recording_counts.specs.LineTally.{LineCountsStandFor, LineTallyStandsFor, LinesState}
use Rattle.recording_counts.specs.EventTally.{EventTallyStandsFor, EventsState}

-- what contracts see of a tally: where its reader stands, and the counts of lines and of events
pub record TallyState : Type 0 where
  pub reader : Reader
  pub lines : LinesState
  pub events : EventsState

-- the bytes of the line that has begun have no newline
abbrev pub HasBegun : Place → Type 0
HasBegun (Err error) = Unit {0}
HasBegun (Ok at) = line_len at.1 ≡ length at.1

-- These bytes were counted: their lines gave these events, and what comes behind them gives its events behind these.
pub record HasCounted (devices : Known) (plans : List DevicePlan) (bytes : List ℕ) (t : TallyState) : Type 0 where
  pub events : List RawEvent
  pub goes_on : (rest : List ℕ) → with_events events (still t.reader rest) ≡ recorded devices (bytes ++ rest)
  pub begun : HasBegun t.reader.place
  pub lines_stand : LineTallyStandsFor devices bytes t.lines
  pub events_stand : EventTallyStandsFor plans (reverse events) t.events

-- These bytes were counted, unless memory ran out, or a line of them is refused, which is the answer of each recording that begins with them.
abbrev pub Counts : Result (Unit {0}) LineError → Known → List DevicePlan → List ℕ → TallyState → Type 0
Counts (Ok done) devices plans bytes t = HasCounted devices plans bytes t
Counts (Err error) devices plans bytes t = (rest : List ℕ) → Answers (Err error) (recorded devices (bytes ++ rest))

-- All of a recording was counted: its lines, none of which is refused, and its events.
pub record IsCounted (devices : Known) (plans : List DevicePlan) (bytes : List ℕ) (t : TallyState) : Type 0 where
  pub events : List RawEvent
  pub events_are : recorded devices bytes ≡ Ok events
  pub lines_read : AreRead devices (reverse (lines_of bytes))
  pub lines_stand : LineCountsStandFor devices (reverse (lines_of bytes)) t.lines.counts
  pub events_stand : EventTallyStandsFor plans (reverse events) t.events

-- All of it was counted, unless memory ran out or a line is refused.
abbrev pub Ends : Result (Unit {0}) LineError → Known → List DevicePlan → List ℕ → TallyState → Type 0
Ends (Ok done) devices plans bytes t = IsCounted devices plans bytes t
Ends (Err error) devices plans bytes t = Answers (Err error) (recorded devices bytes)
