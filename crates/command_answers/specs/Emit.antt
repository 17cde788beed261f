-- What `emit` answers for a stream file.
use Rattle.std.specs.Prelude.{codes, ◌≡◌, ℕ, List, Result, Ok, Err, IfErr, ⊤}
use Rattle.emit_text.specs.declared.error.EmitError.{EmitError}
use Rattle.emit_text.specs.declared.error.EmitError.TheVariants.{BadLine, NotWellFormed, NoChannel, TooLate, NotAssignable, Spent, TooLong, Memory}
use Rattle.emit_text.specs.Emitted.{IsEmitted}
use Rattle.command_files.specs.Judged.{Answer}
use Rattle.command_files.specs.Refused.{Refused, bad_stream_line, not_well_formed, no_channel, too_late, not_assignable, refused, too_long}
use Rattle.command_files.specs.declared.refusal.Refusal.{Refusal}
use Rattle.command_files.specs.declared.refusal.Refusal.TheVariants as refusal
use Rattle.command_files.specs.declared.refusal.StreamError.TheVariants as stream
use Rattle.command_files.specs.declared.refusal.Subject.TheVariants as subject

-- A refusal that is reported as one: a file within the limit never exhausts a writer, and running out of memory is
-- not an answer.
abbrev pub MayRefuse : EmitError → Type 0
MayRefuse (Spent n) = ⊥
MayRefuse Memory = ⊥
MayRefuse error = ⊤

-- the refusal for a stream that is not written as a recording
abbrev pub emit_refused : EmitError → Refused
emit_refused (BadLine n) = bad_stream_line n
emit_refused (NotWellFormed n) = not_well_formed n
emit_refused NoChannel = no_channel
emit_refused (TooLate n) = too_late n
emit_refused (NotAssignable n) = not_assignable n
emit_refused (Spent n) = refused 6 (codes "no memory")
emit_refused TooLong = too_long (codes "run")
emit_refused Memory = refused 6 (codes "no memory")

-- the text of a recording, or why there is none
abbrev pub emit_answer : Result (List ℕ) EmitError → Answer
emit_answer (Ok text) = Ok text
emit_answer (Err error) = Err (emit_refused error)

-- the recording of a device in a channel of a stream file
abbrev pub EmitAnswers : ℕ → ℕ → List ℕ → Answer → Type 0
EmitAnswers channel device bytes a =
    (r : Result (List ℕ) EmitError) × IsEmitted bytes channel device r × IfErr r MayRefuse × (emit_answer r ≡ a)

-- the refusal for a stream that is not written as a recording
abbrev pub refusal_of_emit : EmitError → Refusal
refusal_of_emit (BadLine n) = refusal.Stream (stream.BadLine n)
refusal_of_emit (NotWellFormed n) = refusal.Stream (stream.NotWellFormed n)
refusal_of_emit NoChannel = refusal.Stream stream.NoChannel
refusal_of_emit (TooLate n) = refusal.Stream (stream.TooLate n)
refusal_of_emit (NotAssignable n) = refusal.Stream (stream.NotAssignable n)
refusal_of_emit (Spent n) = refusal.NoMemory
refusal_of_emit TooLong = refusal.TooLong subject.Run
refusal_of_emit Memory = refusal.NoMemory
