-- What a reader keeps between two pieces, and what its parts read.
use Rattle.std.specs.Prelude.{ℕ, ◌≡◌, ◌<◌, ◌≤◌, List, ◌∷◌, ◌++◌, length, take, Option, Some, None, Result, Ok, Err}
use Rattle.raw_events.specs.declared.event.RawEvent.{RawEvent}
use Rattle.raw_events.specs.declared.event.LineError.{LineError}
use Rattle.raw_events.specs.declared.event.LineError.TheVariants as errors
use Rattle.raw_events.specs.declared.line.Line.{Line}
use Rattle.raw_events.specs.Recording.{line_len, next_number}
use Rattle.raw_events.specs.Line.{Known, judged}
use Rattle.raw_events.specs.Pieces.{Told, Place, Step, parts, tell, with_told}

-- the bytes of a line that has begun, with room for the longest line
pub record IsKept (kept : List ℕ) (capacity : ℕ) : Type 0 where
  pub short : length kept ≤ 4096
  pub unended : line_len kept ≡ length kept
  pub room : 4096 ≤ capacity

-- running out of memory is no refusal of a line
abbrev pub IsCause : Option LineError → Type 0
IsCause (Some errors.Memory) = ⊥
IsCause (Some error) = Unit {0}
IsCause None = Unit {0}

-- the refusal, where a line was refused; else the number of the line that has begun, and its bytes
abbrev pub place_now : ℕ → List ℕ → Option LineError → Place
place_now n kept None = Ok (n, kept)
place_now n kept (Some error) = Err error

-- events that were sent before
abbrev pub behind : List RawEvent → Told → Told
behind before told = record { events = before ++ told.events; next = told.next }

-- the first line that ends in these bytes says this, and so much stands behind its newline
pub record TakesLine (devices : Known) (bytes : List ℕ) (line : Line) (after : List ℕ) : Type 0 where
  pub text : List ℕ
  pub cut : parts bytes ≡ record { ended = text ∷ (parts after).ended; begun = (parts after).begun }
  pub says : line ≡ judged devices text
  pub shorter : length after < length bytes

-- A line was read: what the lines behind it say is still to come. If memory runs out, nothing was added.
abbrev pub TellsLine : Result ℕ LineError → Line → ℕ → List RawEvent → List RawEvent → Type 0
TellsLine (Ok next) line n before after = (next ≡ next_number n) × ((told : Told) → behind after told ≡ behind before (with_told line n told))
TellsLine (Err errors.Memory) line n before after = after ≡ before
TellsLine (Err error) line n before after = (told : Told) → record { events = after; next = Err error } ≡ behind before (with_told line n told)

-- Lines were sent up to where the next one begins. If memory runs out, some events may have been added.
abbrev pub TellsLines : Result ℕ LineError → Told → List RawEvent → List RawEvent → Type 0
TellsLines (Err errors.Memory) told before after = take (length before) after ≡ before
TellsLines next told before after = record { events = after; next = next } ≡ behind before told

-- Lines in front were sent, and these bytes stand behind them. If memory runs out, some events may have been added.
abbrev pub TellsFront : Known → Result (ℕ × List ℕ) LineError → ℕ → List ℕ → List RawEvent → List RawEvent → Type 0
TellsFront devices (Ok read) n bytes before after =
    (behind after (tell devices read.0 (parts read.1).ended) ≡ behind before (tell devices n (parts bytes).ended)) × ((parts read.1).begun ≡ (parts bytes).begun)
    × (take (length before) after ≡ before) × (length read.1 ≤ length bytes)
TellsFront devices (Err error) n bytes before after = TellsLines (Err error) (tell devices n (parts bytes).ended) before after

-- A piece was read up to where a line goes on. If memory runs out, some events and some bytes may have been added.
abbrev pub ReadsPiece : Result ℕ LineError → Step → List RawEvent → List RawEvent → List ℕ → List ℕ → Type 0
ReadsPiece (Ok next) step before after kept keeps = (after ≡ before ++ step.events) × (step.place ≡ Ok (next, keeps))
ReadsPiece (Err errors.Memory) step before after kept keeps = (take (length before) after ≡ before) × (take (length kept) keeps ≡ kept)
ReadsPiece (Err error) step before after kept keeps = (after ≡ before ++ step.events) × (step.place ≡ Err error)

-- A line that has begun is longer then, or stays where it would be too long.
abbrev pub Keeps : Result (Unit {0}) LineError → List ℕ → ℕ → List ℕ → List ℕ → Type 0
Keeps (Ok done) longer n kept keeps = keeps ≡ longer
Keeps (Err error) longer n kept keeps = (error ≡ errors.TooLong n) × (4096 < length longer) × (keeps ≡ kept)
