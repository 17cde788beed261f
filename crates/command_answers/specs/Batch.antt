-- What `batch` answers for a stream file.
use Rattle.std.specs.Prelude.{codes, ◌≡◌, ℕ, List, Result, Ok, Err}
use Rattle.stream_judge.specs.declared.error.FileError.{FileError}
use Rattle.stream_judge.specs.declared.error.FileError.TheVariants.{BadLine, NotWellFormed, Memory}
use Rattle.batch_text.specs.Text.{batched}
use Rattle.command_files.specs.Judged.{Answer}
use Rattle.command_files.specs.Refused.{Refused, bad_stream_line, not_well_formed, refused}
use Rattle.command_files.specs.declared.refusal.Refusal.{Refusal}
use Rattle.command_files.specs.declared.refusal.Refusal.TheVariants as refusal
use Rattle.command_files.specs.declared.refusal.StreamError.TheVariants as stream

-- why a stream file is refused
abbrev pub file_refused : FileError → Refused
file_refused (BadLine n) = bad_stream_line n
file_refused (NotWellFormed n) = not_well_formed n
file_refused Memory = refused 6 (codes "no memory")

-- the answer for a file that is judged
abbrev pub file_answer : Result (List ℕ) FileError → Answer
file_answer (Ok text) = Ok text
file_answer (Err error) = Err (file_refused error)

-- the batches of a stream file's bytes, with a frame every `frame` microseconds
abbrev pub BatchAnswers : ℕ → List ℕ → Answer → Type 0
BatchAnswers frame bytes a = file_answer (batched frame bytes) ≡ a

-- the refusal for a stream file that is judged
abbrev pub refusal_of_file : FileError → Refusal
refusal_of_file (BadLine n) = refusal.Stream (stream.BadLine n)
refusal_of_file (NotWellFormed n) = refusal.Stream (stream.NotWellFormed n)
refusal_of_file Memory = refusal.NoMemory
