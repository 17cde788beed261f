-- What a stream file says, line by line, and the streams that it has.
use Rattle.std.specs.Prelude.{◌≡◌, ◌<◌, ℕ, ◌+◌, ◌==◌, ◌&&◌, Bool, true, false, if◌then◌else◌, List, [], ◌∷◌, Option, Some, None, Result, Ok, Err}
use Rattle.input_types.specs.declared.message.Message.{Message as Told}
use Rattle.stream_text.specs.declared.stream_line.StreamLine.{StreamLine}
use Rattle.stream_text.specs.declared.stream_line.StreamLine.TheVariants.{Channel, Message, End, Anr}
use Rattle.stream_text.specs.declared.reading.stream_lines.Place.{Place}
use Rattle.stream_text.specs.declared.reading.stream_lines.Place.TheVariants.{Between, Section, Anrs}
use Rattle.stream_text.specs.Number.{◌>>=◌}
use Rattle.text_lines.specs.Lines.{Line, lines_of}
use Rattle.stream_text.specs.OrderText.{order_passed}
use Rattle.stream_text.specs.StreamLine.{line_of}

-- Where a file stands behind a line, from where it stood before it; None where the line may not stand there. The k-th message of a section has number k,
-- and the end of a section repeats its channel and says how many messages it has. ANRs stand behind all sections.
abbrev pub follow : Place → StreamLine → Option Place
follow Between (Channel id) = Some (Section id 0)
follow Between (Anr clock id seq) = Some Anrs
follow (Section id told) (Message m) = if m.seq == told + 1 then Some (Section id (told + 1)) else None
follow (Section id told) (End e sent received finished) = if (e == id) && (sent == told) then Some Between else None
follow Anrs (Anr clock id seq) = Some Anrs
follow _ _ = None

-- a file may end anywhere but inside a section
abbrev pub may_end : Place → Bool
may_end Between = true
may_end (Section id told) = false
may_end Anrs = true

-- a line with its number
abbrev pub Event : Type 0
Event = ℕ × StreamLine

-- what a line says that may stand there, and where the file stands behind it; a newline has to end the line
abbrev pub told : Place → Line → Option (StreamLine × Place)
told place line =
    if line.1 then (line_of line.0 >>= λ says. follow place says >>= λ next. Some (says, next)) else None

-- a line in front of those behind it
abbrev pub with_event : Event → Result (List Event) ℕ → Result (List Event) ℕ
with_event event (Ok events) = Ok (event ∷ events)
with_event event (Err bad) = Err bad

-- line n, and then the lines behind it
abbrev pub numbered_line : ℕ → Option (StreamLine × Place) → (Place → Result (List Event) ℕ) → Result (List Event) ℕ
numbered_line n None behind = Err n
numbered_line n (Some says) behind = with_event (n, says.0) (behind says.1)

-- the lines from line n on with their numbers, or the number of the first that is bad or, in a section that does not end, missing
abbrev pub events_from : Place → ℕ → List Line → Result (List Event) ℕ
events_from place n [] = if may_end place then Ok [] else Err n
events_from place n (line ∷ lines) = numbered_line n (told place line) (λ next. events_from next (n + 1) lines)

-- the lines behind an order
abbrev pub events_behind : Result (ℕ × List Line) ℕ → Result (List Event) ℕ
events_behind (Ok front) = events_from Between front.0 front.1
events_behind (Err bad) = Err bad

-- the lines of a stream file behind the order that may stand in front, with their numbers, or the number of the first line that is bad or missing
unfoldable pub events_of : List ℕ → Result (List Event) ℕ
events_of bytes = events_behind (order_passed (lines_of bytes))

-- the next line that a reader answers, from its number and what it says
abbrev pub next_line : Result (Option ℕ) ℕ → StreamLine → Result (Option Event) ℕ
next_line (Ok None) says = Ok None
next_line (Ok (Some n)) says = Ok (Some (n, says))
next_line (Err bad) says = Err bad

-- what is left of a file to a reader: how many bytes, and their lines
pub record Unread : Type 0 where
  pub left : ℕ
  pub events : Result (List Event) ℕ

-- what a reader answers for the next line, from what was left to what is left: a line with its number, nothing at the end, or the number of a bad line; the
-- last two change nothing
abbrev pub Goes : Unread → Result (Option Event) ℕ → Unread → Type 0
Goes old (Ok None) new = (old.events ≡ Ok []) × (new ≡ old)
Goes old (Ok (Some event)) new = (old.events ≡ with_event event new.events) × (new.left < old.left)
Goes old (Err bad) new = (old.events ≡ Err bad) × (new ≡ old)

-- a section: its channel, the number of the line behind its first one, and its messages
pub record Stream : Type 0 where
  pub id : ℕ
  pub first_line : ℕ
  pub messages : List Told

-- the messages up to the first line that is none
abbrev pub with_message : StreamLine → List Told → List Told
with_message (Message m) ms = m ∷ ms
with_message _ ms = []

-- the messages up to the next line that is none
abbrev pub messages_of : List Event → List Told
messages_of [] = []
messages_of (event ∷ events) = with_message event.1 (messages_of events)

-- the streams of the sections in order: the messages behind each line that begins one
abbrev pub with_section : Event → List Told → List Stream → List Stream
with_section (n, Channel id) ms streams = record { id = id; first_line = n + 1; messages = ms } ∷ streams
with_section (n, _) ms streams = streams

-- the streams of the sections in order
abbrev pub streams_of : List Event → List Stream
streams_of [] = []
streams_of (event ∷ events) = with_section event (messages_of events) (streams_of events)

-- the streams of a file that is read
abbrev pub streams_in : Result (List Event) ℕ → Result (List Stream) ℕ
streams_in (Ok events) = Ok (streams_of events)
streams_in (Err bad) = Err bad
