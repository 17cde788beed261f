-- What `judge` says of a stream file.
use Rattle.std.specs.Prelude.{codes, ◌≡◌, ℕ, ◌+◌, nat_eq, if◌then◌else◌, List, [], ◌∷◌, ◌++◌, length, Option, Some, None, Result, Ok, Err}
use Rattle.std.specs.Fmt.{decimal}
use Rattle.std.specs.Option.{option_or}
use Rattle.gesture_verifier.specs.declared.reason.Reason.{Reason}
use Rattle.stream_text.specs.StreamFile.{Stream, events_of, streams_in}
use Rattle.stream_judge.specs.Breaks.{past_of}
use Rattle.stream_judge.specs.Sections.{messages_in}
use Rattle.judge_text.specs.declared.error.JudgeError.{JudgeError}
use Rattle.judge_text.specs.declared.error.JudgeError.TheVariants.{BadLine, Broken, StillDown, Nothing, Memory}
use Rattle.judge_text.specs.Broken.{first_broken}
use Rattle.judge_text.specs.Down.{Down, down_after, is_nothing}

-- something is down after a line
abbrev pub something : ℕ → Down → Option (ℕ × Down)
something line down = if is_nothing down then None else Some (line, down)

-- the line of the end of a section, and what is down after it
abbrev pub left_down : Stream → Option (ℕ × Down)
left_down s = something (s.first_line + length s.messages) (down_after (past_of s.messages))

-- that of the first section after which something is down
abbrev pub first_left_down : List Stream → Option (ℕ × Down)
first_left_down [] = None
first_left_down (s ∷ ss) = option_or (left_down s) (first_left_down ss)

-- the line of a section that is whole: its channel, and how many messages it has
unfoldable pub whole_line : ℕ → ℕ → List ℕ
whole_line id count = codes "channel " ++ (decimal id ++ (codes " whole " ++ (decimal count ++ codes "\n")))

-- those of sections, one after the other
abbrev pub whole_lines : List Stream → List ℕ
whole_lines [] = []
whole_lines (s ∷ ss) = whole_line s.id (length s.messages) ++ whole_lines ss

-- the last line: how many sections there are, and how many messages
unfoldable pub count_line : ℕ → ℕ → List ℕ
count_line sections messages = codes "judged " ++ (decimal sections ++ (codes " " ++ (decimal messages ++ codes "\n")))

-- What is answered, with these lines for the sections: the first message that may not come, then the first section after which something is
-- down, then that there is no message, and else the lines.
abbrev pub answer : Option (ℕ × Reason) → Option (ℕ × Down) → ℕ → ℕ → List ℕ → Result (List ℕ) JudgeError
answer (Some broken) down sections messages lines = Err (Broken broken.0 broken.1)
answer None (Some down) sections messages lines = Err (StillDown down.0 down.1)
answer None None sections messages lines = if nat_eq messages 0 then Err Nothing else Ok (lines ++ count_line sections messages)

-- a file with a bad line is refused for that line; any other file is judged
abbrev pub judged_streams : Result (List Stream) ℕ → Result (List ℕ) JudgeError
judged_streams (Err bad) = Err (BadLine bad)
judged_streams (Ok streams) = answer (first_broken streams) (first_left_down streams) (length streams) (messages_in streams) (whole_lines streams)

-- what is said of a stream file's bytes
abbrev pub judged : List ℕ → Result (List ℕ) JudgeError
judged bytes = judged_streams (streams_in (events_of bytes))

-- what is judged is refused so, or memory ran out
abbrev pub Refuses : Result (List ℕ) JudgeError → JudgeError → Type 0
Refuses judged Memory = Unit {0}
Refuses judged error = judged ≡ Err error
