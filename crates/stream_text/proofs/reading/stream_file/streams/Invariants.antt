use Rattle.std.proofs.Common.{◌≡◌, ◌+◌, ◌^◌, ◌<◌, map}
use Rattle.std.specs.Prelude.{IfSome}
use Rattle.stream_text.specs.StreamFile.{events_of, streams_in}
use Rattle.stream_text.specs.StreamAnswer.{behind, pending, stream_seen}
use Rattle.stream_text.proofs.Streams.{before}
use Rattle.stream_text.proofs.reading.stream_file.streams.Given as goal

abbrev pub invariant-lines : goal.invariant-lines
invariant-lines l = record {
  read : before (map stream_seen l.channels.items) (streams_in (behind l.line l.lines.events)) ≡ streams_in (events_of l.fn.bytes);
  range : IfSome l.line (λ event. event.0 + 1 < 2 ^ 64);
}

abbrev pub decreases-lines : goal.decreases-lines
decreases-lines l = l.lines.left + pending l.line
