-- Why a stream file has no batches, is not whole or differs, and what is written as a recording.
use Rattle.std.proofs.Common.{ℕ, List, Ok, Err, ap, refl}
use Rattle.compare_text.specs.declared.comparison.Comparison.{Comparison}
use Rattle.compare_text.specs.declared.error.CompareError.{CompareError}
use Rattle.compare_text.specs.declared.error.CompareError.TheVariants as compare
use Rattle.compare_text.specs.Compared.{compared, Refuses as CompareRefuses}
use Rattle.compare_text.specs.Points.{Section}
use Rattle.judge_text.specs.declared.error.JudgeError.{JudgeError}
use Rattle.judge_text.specs.declared.error.JudgeError.TheVariants as judge
use Rattle.judge_text.specs.Judged.{judged, Refuses as JudgeRefuses}
use Rattle.stream_judge.specs.declared.error.FileError.{FileError}
use Rattle.stream_judge.specs.declared.error.FileError.TheVariants.{BadLine, NotWellFormed, Memory}
use Rattle.stream_judge.specs.Judged.{Refuses as FileRefuses}
use Rattle.batch_text.specs.Text.{batched}
use Rattle.emit_text.specs.declared.error.EmitError.{EmitError}
use Rattle.emit_text.specs.declared.error.EmitError.TheVariants as emit
use Rattle.emit_text.specs.Emitted.{IsEmitted, Refuses as EmitRefuses}
use Rattle.command_files.specs.Refusing.{RefusesSo}
use Rattle.command_answers.specs.Batch.{BatchAnswers, file_answer, refusal_of_file}
use Rattle.command_answers.specs.Compare.{SameAnswers, refusal_of_compare, same_answer}
use Rattle.command_answers.specs.Emit.{EmitAnswers, refusal_of_emit}
use Rattle.command_answers.specs.Judge.{JudgeAnswers, refusal_of_judge, whole_answer}

-- a stream file that has no batches is refused for the same line
pub batch_refused : (frame : ℕ) (bytes : List ℕ) (e : FileError) → FileRefuses (batched frame bytes) e → RefusesSo (λ r. BatchAnswers frame bytes (Err r)) (refusal_of_file e)
batch_refused frame bytes (BadLine n) h = ap file_answer h
batch_refused frame bytes (NotWellFormed n) h = ap file_answer h
batch_refused frame bytes Memory h = tt

-- one whose sections are not whole is refused so
pub judge_refused : (bytes : List ℕ) (e : JudgeError) → JudgeRefuses (judged bytes) e → RefusesSo (λ r. JudgeAnswers bytes (Err r)) (refusal_of_judge e)
judge_refused bytes (judge.BadLine n) h = ap whole_answer h
judge_refused bytes (judge.Broken n reason) h = ap whole_answer h
judge_refused bytes (judge.StillDown n down) h = ap whole_answer h
judge_refused bytes judge.Nothing h = ap whole_answer h
judge_refused bytes judge.Memory h = tt

-- one that differs from another is refused so
pub compare_refused : (rule : Comparison) (want got : List Section) (e : CompareError) → CompareRefuses (compared rule want got) e
    → RefusesSo (λ r. SameAnswers rule want got (Err r)) (refusal_of_compare e)
compare_refused rule want got (compare.Differs w g what) h = ap same_answer h
compare_refused rule want got (compare.Missing w) h = ap same_answer h
compare_refused rule want got (compare.Added g) h = ap same_answer h
compare_refused rule want got (compare.NoSection w) h = ap same_answer h
compare_refused rule want got (compare.NewSection g) h = ap same_answer h
compare_refused rule want got compare.Memory h = tt

-- what is written as a recording, and why a stream is not
pub emit_answered : (channel device : ℕ) (bytes text : List ℕ) → IsEmitted bytes channel device (Ok text) → EmitAnswers channel device bytes (Ok text)
emit_answered channel device bytes text h = (Ok text, h, tt, refl)

pub emit_refuses : (channel device : ℕ) (bytes : List ℕ) (e : EmitError) → EmitRefuses (IsEmitted bytes channel device) e
    → RefusesSo (λ r. EmitAnswers channel device bytes (Err r)) (refusal_of_emit e)
emit_refuses channel device bytes (emit.BadLine n) h = (Err (emit.BadLine n), h, tt, refl)
emit_refuses channel device bytes (emit.NotWellFormed n) h = (Err (emit.NotWellFormed n), h, tt, refl)
emit_refuses channel device bytes emit.NoChannel h = (Err emit.NoChannel, h, tt, refl)
emit_refuses channel device bytes (emit.TooLate n) h = (Err (emit.TooLate n), h, tt, refl)
emit_refuses channel device bytes (emit.NotAssignable n) h = (Err (emit.NotAssignable n), h, tt, refl)
emit_refuses channel device bytes (emit.Spent n) h = tt
emit_refuses channel device bytes emit.TooLong h = (Err emit.TooLong, h, tt, refl)
emit_refuses channel device bytes emit.Memory h = tt
