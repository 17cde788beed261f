use Rattle.std.proofs.Common.{◌-◌, ◌≤◌, length, drop}
use Rattle.text_output.specs.Passing.{WritesPiece}
use Rattle.text_output.proofs.output.write_piece.Given as goal

-- the piece was written up to what stands behind `at`
abbrev pub invariant-writes : goal.invariant-writes
invariant-writes g l =
    record {
      within : l.at ≤ length l.piece;
      written : WritesPiece (g.O.Sink.writing l.initial.out) (g.O.Sink.writing l.out) l.piece (drop l.at l.piece);
      later : g.O.Sink.faults l.initial.out ≤ g.O.Sink.faults l.out;
    }

abbrev pub decreases-writes : goal.decreases-writes
decreases-writes g l = length l.piece - l.at
