-- A recording that comes in pieces: what a piece says, and what a reader knows between two pieces.
use Rattle.std.specs.Prelude.{ℕ, ◌==◌, ◌≡◌, nat_lt, if◌then◌else◌, List, [], ◌∷◌, ◌++◌, length, Result, Ok, Err}
use Rattle.raw_events.specs.declared.event.RawEvent.{RawEvent}
use Rattle.raw_events.specs.declared.event.LineError.{LineError}
use Rattle.raw_events.specs.declared.event.LineError.TheVariants as errors
use Rattle.raw_events.specs.declared.line.Line.{Line}
use Rattle.raw_events.specs.declared.line.Line.TheVariants.{PassedOver, Event, Refused}
use Rattle.raw_events.specs.Line.{Known, judged}
use Rattle.raw_events.specs.Recording.{next_number, refusal, lines_of, events_from}

-- bytes by their newlines: the lines that a newline ended, and the line that has begun behind the last newline
pub record Parts : Type 0 where
  pub ended : List (List ℕ)
  pub begun : List ℕ

-- one more byte in front, which is no newline
abbrev pub with_byte : ℕ → List (List ℕ) → List ℕ → Parts
with_byte b [] begun = record { ended = []; begun = b ∷ begun }
with_byte b (line ∷ lines) begun = record { ended = (b ∷ line) ∷ lines; begun = begun }

-- these bytes by their newlines
abbrev pub parts : List ℕ → Parts
parts [] = record { ended = []; begun = [] }
parts (b ∷ bs) = if b == 10 then record { ended = [] ∷ (parts bs).ended; begun = (parts bs).begun } else with_byte b (parts bs).ended (parts bs).begun

-- what stands behind the last newline, as a line, where anything does
abbrev pub last_line : List ℕ → List (List ℕ)
last_line [] = []
last_line (b ∷ bs) = (b ∷ bs) ∷ []

-- what lines say: the events up to the first refused line, and its refusal, or the number of the line behind them
pub record Told : Type 0 where
  pub events : List RawEvent
  pub next : Result ℕ LineError

-- line n, in front of what the lines behind it say
abbrev pub with_told : Line → ℕ → Told → Told
with_told PassedOver n told = told
with_told (Event event) n told = record { events = event ∷ told.events; next = told.next }
with_told (Refused cause) n told = record { events = []; next = Err (refusal cause n) }

-- what these lines say, of which the first has the number n
abbrev pub tell : Known → ℕ → List (List ℕ) → Told
tell devices n [] = record { events = []; next = Ok n }
tell devices n (line ∷ lines) = with_told (judged devices line) n (tell devices (next_number n) lines)

-- the number of the line that has begun with its bytes, or the refusal of a line
abbrev pub Place : Type 0
Place = Result (ℕ × List ℕ) LineError

-- a line that has begun is refused as soon as it is too long, and goes on else
abbrev pub going_on : Result ℕ LineError → List ℕ → Place
going_on (Err error) begun = Err error
going_on (Ok n) begun = if nat_lt 4096 (length begun) then Err (errors.TooLong n) else Ok (n, begun)

-- a reader between two pieces: the devices of the session, and where it stands
pub record Reader : Type 0 where
  pub devices : Known
  pub place : Place

-- the events that a piece gives, and where the reader stands behind it; a refusal stays
pub record Step : Type 0 where
  pub events : List RawEvent
  pub place : Place

-- what the line n gives, which has begun, and the lines behind it, where their bytes have these parts
abbrev pub from_parts : Known → ℕ → Parts → Step
from_parts devices n p = record { events = (tell devices n p.ended).events; place = going_on (tell devices n p.ended).next p.begun }

-- what a piece gives behind the bytes of the line that has begun, and nothing where a line was refused
abbrev pub fed_at : Known → Place → List ℕ → Step
fed_at devices (Err error) piece = record { events = []; place = Err error }
fed_at devices (Ok at) piece = from_parts devices at.0 (parts (at.1 ++ piece))

-- what a piece gives
abbrev pub fed : Reader → List ℕ → Step
fed reader piece = fed_at reader.devices reader.place piece

-- the newline that the end of the recording stands for, where a line has begun
abbrev pub closing : List ℕ → List ℕ
closing [] = []
closing (b ∷ bs) = 10 ∷ []

-- the newline that ends a line which has begun
abbrev pub closing_at : Place → List ℕ
closing_at (Err error) = []
closing_at (Ok at) = closing at.1

-- what the end of the recording gives
abbrev pub finished : Reader → Step
finished reader = fed reader (closing_at reader.place)

-- the answer of a call that leaves the reader here
abbrev pub answered : Place → Result (Unit {0}) LineError
answered (Err error) = Err error
answered (Ok at) = Ok tt

-- A call does this step, and if memory runs out, all is as before.
abbrev pub Does : Result (Unit {0}) LineError → Step → Reader → Reader → List RawEvent → List RawEvent → Type 0
Does (Err errors.Memory) step old new before after = (new ≡ old) × (after ≡ before)
Does answer step old new before after = (answer ≡ answered step.place) × (new ≡ record { devices = old.devices; place = step.place }) × (after ≡ before ++ step.events)

-- events in front of those of a recording, where no line of it is refused
abbrev pub with_events : List RawEvent → Result (List RawEvent) LineError → Result (List RawEvent) LineError
with_events front (Ok events) = Ok (front ++ events)
with_events front (Err error) = Err error

-- what a reader still gives where these bytes come, and then the end
abbrev pub still_at : Known → Place → List ℕ → Result (List RawEvent) LineError
still_at devices (Err error) bytes = Err error
still_at devices (Ok at) bytes = events_from devices at.0 (lines_of (at.1 ++ bytes))

-- what a reader still gives where these bytes come, and then the end
abbrev pub still : Reader → List ℕ → Result (List RawEvent) LineError
still reader bytes = still_at reader.devices reader.place bytes
