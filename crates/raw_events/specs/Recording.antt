-- The lines of a recording and the events that they give.
use Rattle.std.specs.Prelude.{ℕ, ◌+◌, ◌-◌, ◌^◌, ◌==◌, min, not, if◌then◌else◌, List, [], ◌∷◌, ◌≡◌, Result, Ok, Err, Vec}
use Rattle.std.specs.List.{prefix_len}
use Rattle.std.specs.declared.alloc.Global.{Global}
use Rattle.raw_events.specs.declared.event.RawEvent.{RawEvent}
use Rattle.raw_events.specs.declared.event.LineError.{LineError}
use Rattle.raw_events.specs.declared.event.LineError.TheVariants as errors
use Rattle.raw_events.specs.declared.line.Cause.{Cause}
use Rattle.raw_events.specs.declared.line.Cause.TheVariants.{BadLine, NoMoment, TooLong}
use Rattle.raw_events.specs.declared.line.Line.{Line}
use Rattle.raw_events.specs.declared.line.Line.TheVariants.{PassedOver, Event, Refused}
use Rattle.raw_events.specs.Line.{Known, judged}

-- how many bytes stand before the first newline
abbrev pub line_len : List ℕ → ℕ
line_len bs = prefix_len (λ b. not (b == 10)) bs

-- a byte in front of the first of these lines, which is a line of its own where there is none
abbrev pub with_front : ℕ → List (List ℕ) → List (List ℕ)
with_front b [] = (b ∷ []) ∷ []
with_front b (line ∷ lines) = (b ∷ line) ∷ lines

-- the bytes up to each newline, and those behind the last one where there are any
abbrev pub lines_of : List ℕ → List (List ℕ)
lines_of [] = []
lines_of (b ∷ bs) = if b == 10 then [] ∷ lines_of bs else with_front b (lines_of bs)

-- the number of the next line; a number that stands at the greatest of 64 bits stays there
abbrev pub next_number : ℕ → ℕ
next_number n = min (n + 1) (2 ^ 64 - 1)

-- the refusal of a line by its number
abbrev pub refusal : Cause → ℕ → LineError
refusal BadLine n = errors.BadLine n
refusal NoMoment n = errors.NoMoment n
refusal TooLong n = errors.TooLong n

-- one more line in front of those that were read
abbrev pub with_line : Line → ℕ → Result (List RawEvent) LineError → Result (List RawEvent) LineError
with_line PassedOver n read = read
with_line (Event event) n (Ok events) = Ok (event ∷ events)
with_line (Event event) n (Err error) = Err error
with_line (Refused cause) n read = Err (refusal cause n)

-- the events of the lines from line n on, or the refusal of the first refused line
abbrev pub events_from : Known → ℕ → List (List ℕ) → Result (List RawEvent) LineError
events_from devices n [] = Ok []
events_from devices n (line ∷ lines) = with_line (judged devices line) n (events_from devices (next_number n) lines)

-- the events of a recording, or the refusal of its first refused line
unfoldable pub recorded : Known → List ℕ → Result (List RawEvent) LineError
recorded devices bytes = events_from devices 1 (lines_of bytes)

-- A call answers what is recorded, unless memory ran out.
abbrev pub Answers : Result (Vec RawEvent Global) LineError → Result (List RawEvent) LineError → Type 0
Answers (Ok events) told = told ≡ Ok events.items
Answers (Err errors.Memory) told = Unit {0}
Answers (Err error) told = told ≡ Err error
