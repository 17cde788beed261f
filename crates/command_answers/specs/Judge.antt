-- What `judge` answers for a stream file.
use Rattle.std.specs.Prelude.{◌≡◌, ℕ, List, Result, Ok, Err}
use Rattle.judge_text.specs.declared.error.JudgeError.{JudgeError}
use Rattle.judge_text.specs.declared.error.JudgeError.TheVariants.{BadLine, Broken, StillDown, Nothing, Memory}
use Rattle.judge_text.specs.Judged.{judged}
use Rattle.command_files.specs.Judged.{Answer}
use Rattle.command_files.specs.Refused.{not_whole}
use Rattle.command_files.specs.declared.refusal.Refusal.{Refusal}
use Rattle.command_files.specs.declared.refusal.Refusal.TheVariants as refusal
use Rattle.command_files.specs.declared.refusal.StreamError.TheVariants as stream

-- the lines of sections that are whole, or why some are not
abbrev pub whole_answer : Result (List ℕ) JudgeError → Answer
whole_answer (Ok text) = Ok text
whole_answer (Err error) = Err (not_whole error)

-- whether each section of a stream file's bytes is whole
abbrev pub JudgeAnswers : List ℕ → Answer → Type 0
JudgeAnswers bytes a = whole_answer (judged bytes) ≡ a

-- the refusal for a stream file that is judged
abbrev pub refusal_of_judge : JudgeError → Refusal
refusal_of_judge (BadLine line) = refusal.Stream (stream.NotWhole (BadLine line))
refusal_of_judge (Broken line reason) = refusal.Stream (stream.NotWhole (Broken line reason))
refusal_of_judge (StillDown line down) = refusal.Stream (stream.NotWhole (StillDown line down))
refusal_of_judge Nothing = refusal.Stream (stream.NotWhole Nothing)
refusal_of_judge Memory = refusal.NoMemory
