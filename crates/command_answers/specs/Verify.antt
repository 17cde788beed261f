-- What `verify` says of a stream file.
use Rattle.std.specs.Prelude.{◌≡◌, codes, ℕ, ◌+◌, List, ◌++◌, length, Option, Some, None, Result, Ok, Err}
use Rattle.std.specs.Fmt.{decimal}
use Rattle.stream_text.specs.StreamFile.{Stream, events_of, streams_in}
use Rattle.command_files.specs.Refused.{Refused, bad_stream_line, not_well_formed}
use Rattle.stream_judge.specs.Breaks.{first_break}
use Rattle.stream_judge.specs.Sections.{messages_in}
use Rattle.command_files.specs.Judged.{Answer}

-- what is said of streams: how many channels and messages they have, or the line of the first message that may not come where it stands
abbrev pub said : Option ℕ → ℕ → ℕ → Result (List ℕ) Refused
said None channels messages = Ok (codes "well formed " ++ (decimal channels ++ (codes " " ++ (decimal messages ++ codes "\n"))))
said (Some line) channels messages = Err (not_well_formed line)

-- a file with a bad line is refused for it, and only a file without one is judged by the rule for streams
abbrev pub judged : Result (List Stream) ℕ → Result (List ℕ) Refused
judged (Err bad) = Err (bad_stream_line bad)
judged (Ok streams) = said (first_break streams) (length streams) (messages_in streams)

-- the result for a stream file's bytes
abbrev pub verdict : List ℕ → Result (List ℕ) Refused
verdict bytes = judged (streams_in (events_of bytes))

-- what `verify` answers for the bytes of a stream file
abbrev pub StreamAnswers : List ℕ → Answer → Type 0
StreamAnswers bytes a = verdict bytes ≡ a
