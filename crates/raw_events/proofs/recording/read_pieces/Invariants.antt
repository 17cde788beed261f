use Rattle.std.proofs.Common.{◌≡◌, drop}
use Rattle.std.specs.List.{flat_map}
use Rattle.raw_events.specs.Line.{known}
use Rattle.raw_events.specs.Recording.{recorded}
use Rattle.raw_events.specs.Pieces.{still, with_events}
use Rattle.raw_events.proofs.Cuts.{IsBegun}
use Rattle.raw_events.proofs.recording.read_pieces.Given as goal

abbrev pub invariant-loop-piece : goal.invariant-loop-piece
invariant-loop-piece l = record {
  read : with_events l.events.items (still l.reader (flat_map (λ piece. piece.items) (drop l.piece-index l.pieces))) ≡ recorded (known l.fn.paths.items) (flat_map (λ piece. piece.items) l.pieces);
  begun : IsBegun l.reader.place;
}
