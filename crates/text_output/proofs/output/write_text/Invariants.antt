use Rattle.std.proofs.Common.{◌≤◌, ◌++◌, drop}
use Rattle.text_pieces.specs.Joined.{joined}
use Rattle.text_output.proofs.Passing.{WroteFirst}
use Rattle.text_output.proofs.Pieces.{items_of}
use Rattle.text_output.proofs.output.write_text.Given as goal

-- the text was written up to the next piece, each piece before it by itself
abbrev pub invariant-loop-piece : goal.invariant-loop-piece
invariant-loop-piece g l =
    record {
      written : WroteFirst (g.O.Sink.writing l.initial.out) (g.O.Sink.writing l.out) l.initial.text (joined (drop l.piece-index l.before) ++ l.last)
          (items_of (drop l.piece-index l.before)) (items_of l.before);
      later : g.O.Sink.faults l.initial.out ≤ g.O.Sink.faults l.out;
    }
