-- The sections and the messages of a stream file, line by line and stream by stream.
use Rattle.std.specs.Prelude.{ℕ, ◌+◌, List, [], ◌∷◌, length}
use Rattle.input_types.specs.declared.message.Message.{Message as Sent}
use Rattle.stream_text.specs.declared.stream_line.StreamLine.{StreamLine}
use Rattle.stream_text.specs.declared.stream_line.StreamLine.TheVariants.{Channel, Message, End, Anr}
use Rattle.stream_text.specs.StreamFile.{Event, Stream}

-- the messages of the open section after a line, newest first
abbrev pub sent_after : List Sent → StreamLine → List Sent
sent_after past (Channel id) = []
sent_after past (Message m) = m ∷ past
sent_after past (End id sent received finished) = past
sent_after past (Anr clock id seq) = past

-- how many sections a line begins
abbrev pub sections_at : StreamLine → ℕ
sections_at (Channel id) = 1
sections_at _ = 0

-- how many messages a line is
abbrev pub messages_at : StreamLine → ℕ
messages_at (Message m) = 1
messages_at _ = 0

-- how many sections the lines that are left begin
abbrev pub sections_left : List Event → ℕ
sections_left [] = 0
sections_left (e ∷ es) = sections_at e.1 + sections_left es

-- how many messages they are
abbrev pub messages_left : List Event → ℕ
messages_left [] = 0
messages_left (e ∷ es) = messages_at e.1 + messages_left es

-- how many messages these streams have
abbrev pub messages_in : List Stream → ℕ
messages_in [] = 0
messages_in (s ∷ ss) = length s.messages + messages_in ss
