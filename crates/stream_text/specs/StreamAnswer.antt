-- What the calls answer that read the streams of a file.
use Rattle.std.specs.Prelude.{◌≡◌, ℕ, List, [], ◌∷◌, ◌++◌, map, Option, Some, None, Result, Ok, Err, Vec}
use Rattle.std.specs.declared.alloc.Global.{Global}
use Rattle.input_types.specs.declared.message.Message.{Message as Told}
use Rattle.stream_text.specs.declared.stream_line.StreamLine.{StreamLine}
use Rattle.stream_text.specs.declared.stream_line.StreamLine.TheVariants.{Channel, Message}
use Rattle.stream_text.specs.declared.stream_error.StreamError.{StreamError}
use Rattle.stream_text.specs.declared.stream_error.StreamError.TheVariants.{BadLine, Memory}
use Rattle.stream_text.specs.declared.reading.stream_file.StreamChannel.{StreamChannel}
use Rattle.stream_text.specs.declared.reading.stream_file.StreamFile.{StreamFile}
use Rattle.stream_text.specs.StreamFile.{Event, Stream, messages_of, streams_in, streams_of, with_event}

-- the streams of a file without where they lie in memory
abbrev pub stream_seen : StreamChannel → Stream
stream_seen c = record { id = c.id; first_line = c.first_line; messages = c.messages.items }

-- what a contract sees of a stream file: its streams in order
abbrev pub seen : StreamFile → List Stream
seen file = map stream_seen file.channels.items

-- What a call answers is what the file says, unless memory ran out.
abbrev pub Answers : Result StreamFile StreamError → Result (List Stream) ℕ → Type 0
Answers (Ok file) said = said ≡ Ok (seen file)
Answers (Err Memory) said = Unit {0}
Answers (Err (BadLine line)) said = said ≡ Err line

-- a line, where one is left, and what is behind it
abbrev pub behind : Option Event → Result (List Event) ℕ → Result (List Event) ℕ
behind None events = Ok []
behind (Some event) events = with_event event events

-- 1 where a line is there
abbrev pub pending : Option Event → ℕ
pending None = 0
pending (Some event) = 1

-- what is left is the line that a call answers and what is left after it, or the line that it answers is bad
abbrev pub Finds : Result (List Event) ℕ → Result (Option Event) StreamError → Result (List Event) ℕ → Type 0
Finds old (Ok line) new = old ≡ behind line new
Finds old (Err Memory) new = ⊥
Finds old (Err (BadLine bad)) new = old ≡ Err bad

-- the message that a line is
abbrev pub message_sent : Option Event → Option Told
message_sent (Some (n, Message m)) = Some m
message_sent _ = None

-- the channel whose section a line begins
abbrev pub channel_sent : StreamLine → Option ℕ
channel_sent (Channel id) = Some id
channel_sent _ = None

-- a stream in front of others
abbrev pub with_stream : Stream → Result (List Stream) ℕ → Result (List Stream) ℕ
with_stream stream (Ok streams) = Ok (stream ∷ streams)
with_stream stream (Err bad) = Err bad

-- the streams of what is left in an open section, of which some messages were read
abbrev pub opened : ℕ → ℕ → List Told → Result (List Event) ℕ → Result (List Stream) ℕ
opened id first front (Ok events) = Ok (record { id = id; first_line = first; messages = front ++ messages_of events } ∷ streams_of events)
opened id first front (Err bad) = Err bad

-- what a call that reads a section answers: its messages and the line behind them, or the number of a bad line
abbrev pub ReadsSection : Result (List Event) ℕ → Result (Vec Told Global × Option Event) StreamError → Result (List Event) ℕ → Type 0
ReadsSection old (Ok section) new =
    (id first : ℕ) → opened id first [] old ≡ with_stream (record { id = id; first_line = first; messages = section.0.items }) (streams_in (behind section.1 new))
ReadsSection old (Err Memory) new = Unit {0}
ReadsSection old (Err (BadLine bad)) new = old ≡ Err bad
