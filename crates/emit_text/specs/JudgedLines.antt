-- The lines of a stream file, judged one by one.
use Rattle.std.specs.Prelude.{◌≡◌, ◌<◌, ℕ, List, [], ◌∷◌, Option, Some, None, Result, Ok, Err}
use Rattle.input_types.specs.StreamRule.{StreamState, unsent, after_body}
use Rattle.stream_text.specs.declared.stream_line.StreamLine.{StreamLine}
use Rattle.stream_text.specs.declared.stream_line.StreamLine.TheVariants.{Channel, Message, End, Anr}
use Rattle.stream_text.specs.StreamFile.{Event, events_of}
use Rattle.stream_judge.specs.declared.error.FileError.{FileError}
use Rattle.stream_judge.specs.declared.error.FileError.TheVariants.{BadLine, Memory}
use Rattle.stream_judge.specs.Judged.{unless_broken}

-- what a window knows after a line of its section; None if the line's message may not come
abbrev pub after_line : StreamState → StreamLine → Option StreamState
after_line s (Channel id) = Some unsent
after_line s (Message m) = after_body s m.body
after_line s (End id sent received finished) = Some s
after_line s (Anr clock id seq) = Some s

-- the line at which a message may not come, or else the result for the rest
abbrev pub break_or : ℕ → Option StreamState → (StreamState → Option ℕ) → Option ℕ
break_or line None rest = Some line
break_or line (Some s) rest = rest s

-- the line of the first message that may not come, of lines after what a window knows
abbrev pub breaks : StreamState → List Event → Option ℕ
breaks s [] = None
breaks s (e ∷ es) = break_or e.0 (after_line s e.1) (λ next. breaks next es)

-- lines after what a window knows, or why the file is refused for them
abbrev pub judged_lines : StreamState → Result (List Event) ℕ → Result (List Event) FileError
judged_lines s (Ok es) = unless_broken (breaks s es) es
judged_lines s (Err bad) = Err (BadLine bad)

-- the lines of a file's bytes, or why the file is refused
abbrev pub file_lines : List ℕ → Result (List Event) FileError
file_lines bytes = judged_lines unsent (events_of bytes)

-- what is left of a file to a reader: how many bytes, and their lines, or why the file is refused
pub record Unjudged : Type 0 where
  pub left : ℕ
  pub lines : Result (List Event) FileError

-- a line in front of those after it
abbrev pub with_line : Event → Result (List Event) FileError → Result (List Event) FileError
with_line event (Ok events) = Ok (event ∷ events)
with_line event (Err error) = Err error

-- what a reader returns for the next line: a line, nothing at the end, or why the file is refused
abbrev pub Judges : Unjudged → Result (Option Event) FileError → Unjudged → Type 0
Judges old (Ok None) new = old.lines ≡ Ok []
Judges old (Ok (Some event)) new = (old.lines ≡ with_line event new.lines) × (new.left < old.left)
Judges old (Err Memory) new = Unit {0}
Judges old (Err error) new = old.lines ≡ Err error
