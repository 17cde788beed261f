-- Refusals of the parts, as those of the whole.
use Rattle.std.specs.Prelude.{ℕ}
use Rattle.stream_judge.specs.declared.error.FileError.{FileError}
use Rattle.stream_judge.specs.declared.error.FileError.TheVariants as file
use Rattle.touch_writer.specs.declared.error.WriteError.{WriteError}
use Rattle.touch_writer.specs.declared.error.WriteError.TheVariants as write
use Rattle.emit_text.specs.declared.error.EmitError.{EmitError}
use Rattle.emit_text.specs.declared.error.EmitError.TheVariants.{BadLine, NotWellFormed, NotAssignable, Spent, Memory}

-- a file's refusal
abbrev pub file_refusal : FileError → EmitError
file_refusal (file.BadLine line) = BadLine line
file_refusal (file.NotWellFormed line) = NotWellFormed line
file_refusal file.Memory = Memory

-- the refusal of the packet of a motion in this line
abbrev pub packet_refusal : ℕ → WriteError → EmitError
packet_refusal line (write.NotAssignable id) = NotAssignable line
packet_refusal line write.TooMany = Spent line
packet_refusal line write.Spent = Spent line
packet_refusal line write.Memory = Memory
