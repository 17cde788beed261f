-- The sections of a file, as readers that stand at their first messages.
use Rattle.std.specs.Prelude.{◌≡◌, ℕ, ◌+◌, ◌&&◌, nat_lt, Bool, true, false, List, [], ◌∷◌, length, Result, Ok, Err}
use Rattle.std.specs.List.{list_all}
use Rattle.input_types.specs.declared.message.Message.{Message as Told}
use Rattle.stream_text.specs.declared.stream_error.StreamError.{StreamError}
use Rattle.stream_text.specs.declared.stream_error.StreamError.TheVariants.{BadLine, Memory}
use Rattle.stream_text.specs.declared.stream_line.StreamLine.{StreamLine}
use Rattle.stream_text.specs.declared.stream_line.StreamLine.TheVariants.{Channel, Message}
use Rattle.stream_text.specs.StreamFile.{Event, Stream, events_of, streams_in}
use Rattle.compare_text.specs.declared.section.Opened.{Opened}
use Rattle.compare_text.specs.Points.{Section, sections_of}

-- a line in front of messages: one more, and none after it if it is no message
abbrev pub with_message : ℕ → StreamLine → List (ℕ × Told) → List (ℕ × Told)
with_message line (Message m) messages = (line, m) ∷ messages
with_message line _ messages = []

-- the messages of an open section, from the remaining lines
abbrev pub messages_left : List Event → List (ℕ × Told)
messages_left [] = []
messages_left (e ∷ es) = with_message e.0 e.1 (messages_left es)

-- the same, if none of the lines is bad
abbrev pub messages_at : Result (List Event) ℕ → List (ℕ × Told)
messages_at (Ok es) = messages_left es
messages_at (Err bad) = []

-- no remaining line is bad
abbrev pub is_good : Result (List Event) ℕ → Bool
is_good (Ok es) = true
is_good (Err bad) = false

-- a section, with the messages that its reader has left
abbrev pub seen : Opened → Section
seen s = record { id = s.id; line = s.line; messages = messages_at s.lines.events }

-- how many messages a line is
abbrev pub message_at : StreamLine → ℕ
message_at (Message m) = 1
message_at _ = 0

-- how many messages these sections have
abbrev pub count_of : List Section → ℕ
count_of [] = 0
count_of (s ∷ ss) = length s.messages + count_of ss

-- a section may be compared: no line after it is bad, and its channel is one of 64
abbrev pub is_opened : Opened → Bool
is_opened s = is_good s.lines.events && nat_lt s.id 65

-- each of these may
abbrev pub are_opened : List Opened → Bool
are_opened ss = list_all is_opened ss

-- a line in front of sections
abbrev pub with_section : ℕ → StreamLine → List (ℕ × Told) → List Section → List Section
with_section line (Channel id) messages sections = record { id = id; line = line; messages = messages } ∷ sections
with_section line _ messages sections = sections

-- the sections that lines begin
abbrev pub sections_at : List Event → List Section
sections_at [] = []
sections_at (e ∷ es) = with_section e.0 e.1 (messages_left es) (sections_at es)

-- those of streams
abbrev pub sections_in : Result (List Stream) ℕ → Result (List Section) ℕ
sections_in (Ok streams) = Ok (sections_of streams)
sections_in (Err bad) = Err bad

-- the sections of the bytes of a file, or the number of its first bad line
abbrev pub file_sections : List ℕ → Result (List Section) ℕ
file_sections bytes = sections_in (streams_in (events_of bytes))

-- A reader returns the sections of a file, or its first bad line, unless memory ran out.
abbrev pub Reads : Result (List Section) ℕ → StreamError → Type 0
Reads said (BadLine line) = said ≡ Err line
Reads said Memory = Unit {0}
