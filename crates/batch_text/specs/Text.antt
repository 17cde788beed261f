-- What `batch` says about a stream file.
use Rattle.std.specs.Prelude.{ℕ, List, [], ◌∷◌, ◌++◌, Result}
use Rattle.motion_batch.specs.Calls.{items}
use Rattle.stream_text.specs.StreamFile.{Stream, events_of, streams_in}
use Rattle.stream_judge.specs.declared.error.FileError.{FileError}
use Rattle.stream_judge.specs.Judged.{judged}
use Rattle.batch_text.specs.Frames.{section_calls}
use Rattle.batch_text.specs.Lines.{channel_line, items_text}

-- the text of a section: its channel, and the items of its messages
abbrev pub section_text : ℕ → Stream → List ℕ
section_text frame s = channel_line s.id ++ items_text (items (section_calls frame s.messages))

-- the texts of sections, one after the other
abbrev pub sections_text : ℕ → List Stream → List ℕ
sections_text frame [] = []
sections_text frame (s ∷ ss) = section_text frame s ++ sections_text frame ss

-- The text of a stream file's bytes, with a frame every so many microseconds. It is refused if a line is bad, and
-- otherwise if a message may not come at its place.
abbrev pub batched : ℕ → List ℕ → Result (List ℕ) FileError
batched frame bytes = judged (sections_text frame) (streams_in (events_of bytes))
