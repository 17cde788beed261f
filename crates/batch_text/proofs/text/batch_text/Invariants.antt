use Rattle.std.proofs.Common.{◌+◌, List}
use Rattle.stream_text.specs.StreamAnswer.{pending}
use Rattle.stream_text.specs.StreamFile.{Stream, events_of, streams_in}
use Rattle.batch_text.proofs.File.{FileSoFar}
use Rattle.batch_text.proofs.text.batch_text.Given as goal

abbrev pub invariant-lines : goal.invariant-lines
invariant-lines l = (front : List Stream) × FileSoFar l.fn.frame front (streams_in (events_of l.fn.bytes)) l.line l.lines.events l.text.items

abbrev pub decreases-lines : goal.decreases-lines
decreases-lines l = l.lines.left + pending l.line
