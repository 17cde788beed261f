-- The results of the calls that read the sections of a file.
use Rattle.std.specs.Prelude.{◌≡◌, ℕ, List, [], ◌∷◌, ◌++◌, Option, Some, None, Result, Ok, Err}
use Rattle.input_types.specs.declared.message.Message.{Message as Told}
use Rattle.motion_batch.specs.Calls.{items}
use Rattle.stream_text.specs.declared.stream_line.StreamLine.TheVariants.{Message}
use Rattle.stream_text.specs.StreamFile.{Event, Stream, streams_in}
use Rattle.stream_text.specs.StreamAnswer.{behind, opened, with_stream}
use Rattle.stream_judge.specs.declared.error.FileError.{FileError}
use Rattle.stream_judge.specs.declared.error.FileError.TheVariants.{BadLine, NotWellFormed, Memory}
use Rattle.stream_judge.specs.Breaks.{break_from, first_break}
use Rattle.stream_judge.specs.Judged.{Numbers, Refuses, judged}
use Rattle.batch_text.specs.Frames.{section_calls}
use Rattle.batch_text.specs.Lines.{items_text}

-- what is left is the line that a call answers and what is left after it
abbrev pub IsBehind : Result (List Event) ℕ → Result (List Event) ℕ → Option Event → Type 0
IsBehind old new line = old ≡ behind line new

-- the line that a call does not answer is bad
abbrev pub IsBad : Result (List Event) ℕ → FileError → Type 0
IsBad old (BadLine bad) = old ≡ Err bad
IsBad old (NotWellFormed line) = ⊥
IsBad old Memory = ⊥

-- the message that a line is, with its number
abbrev pub message_at : Option Event → Option (ℕ × Told)
message_at (Some (n, Message m)) = Some (n, m)
message_at _ = None

-- streams in front of others
abbrev pub before : List Stream → Result (List Stream) ℕ → Result (List Stream) ℕ
before front (Ok streams) = Ok (front ++ streams)
before front (Err bad) = Err bad

-- The messages of a section were read up to the line after them, each of them was allowed at its place, their items
-- were written, and the remaining lines are numbered on.
pub record ReadsSection (frame : ℕ) (old new : Result (List Event) ℕ) (text written : List ℕ) (line : Option Event) : Type 0 where
  pub messages : List Told
  pub read : (id first : ℕ) → opened id first [] old ≡ with_stream (record { id = id; first_line = first; messages = messages }) (streams_in (behind line new))
  pub unbroken : (first : ℕ) → break_from first [] messages ≡ None
  pub numbers : (first : ℕ) → Numbers first old → (n : ℕ) × Numbers n (behind line new)
  pub items_are : written ≡ text ++ items_text (items (section_calls frame messages))

-- A file is refused in this way for the section whose messages remain from line `first` on, after sections without a
-- break.
abbrev pub RefusesSection : ℕ → Result (List Event) ℕ → FileError → Type 0
RefusesSection first old error =
    (f : List Stream → List ℕ) (id : ℕ) (front : List Stream) → first_break front ≡ None → Refuses (judged f (before front (opened id first [] old))) error
