use Rattle.std.proofs.Common.{◌≤◌, ◌++◌, drop}
use Rattle.text_output.specs.Passing.{WritesUpTo}
use Rattle.text_output.proofs.Pieces.{parts_of}
use Rattle.text_output.proofs.line.Line.add_parts.Given as goal

-- the parts were written up to what is held, and the next one
abbrev pub invariant-loop-part : goal.invariant-loop-part
invariant-loop-part g l =
    record {
      written : WritesUpTo (g.E.Sink.writing l.initial.err) (g.E.Sink.writing l.err) (l.initial.self ++ parts_of l.parts) (l.self ++ parts_of (drop l.part-index l.parts));
      later : g.E.Sink.faults l.initial.err ≤ g.E.Sink.faults l.err;
    }
