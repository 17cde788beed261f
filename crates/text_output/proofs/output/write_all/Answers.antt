-- The text is one piece.
use Rattle.std.proofs.Common.{[]}
use Rattle.text_output.specs.Passing.{StopsPiece, StopsWithin, WritesAll, WritesPiece}
use Rattle.text_output.proofs.Passing.{on_err_map, on_ok_map, piece_stops, piece_written}
use Rattle.text_output.proofs.output.write_all.Goals as goal

pub returns-clause-ok : goal.returns-clause-ok
returns-clause-ok g c =
    let before = g.O.Sink.writing c.args.out.now in
    let now = g.O.Sink.writing c.write_piece.new.out in
    on_ok_map c.write_piece.result (WritesPiece before now c.args.text.now []) (WritesAll before now c.args.text.now) (piece_written before now c.args.text.now) c.write_piece.ensures.ok

pub returns-clause-err : goal.returns-clause-err
returns-clause-err g c =
    let before = g.O.Sink.writing c.args.out.now in
    let now = g.O.Sink.writing c.write_piece.new.out in
    on_err_map c.write_piece.result (StopsPiece before now c.args.text.now) (StopsWithin before now c.args.text.now) (piece_stops before now c.args.text.now) c.write_piece.ensures.err
