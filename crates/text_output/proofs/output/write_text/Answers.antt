-- One piece more, and the last one.
use Rattle.std.proofs.Common.{◌∙◌, ◌+◌, ◌++◌, ℕ, List, [], ◌∷◌, ap, sym, subst, drop, arith, le_refl}
use Rattle.std.proofs.lemmas.List.{drop_all}
use Rattle.text_pieces.specs.Joined.{joined}
use Rattle.text_output.specs.Passing.{StopsPiece, StopsText, WritesPiece, WritesText}
use Rattle.text_output.proofs.Passing.{WroteFirst, first_as, first_more, first_none, last_stops, on_err_any, on_err_map, on_ok_map, piece_stops_text, text_written}
use Rattle.text_output.proofs.Pieces.{drop_none, items_left, items_of, pieces_left}
use Rattle.text_output.proofs.output.write_text.Goals as goal

pub loop-piece-init : goal.loop-piece-init
loop-piece-init g c =
    let ps = c.parts.result.0.now in
    let last : List ℕ = c.parts.result.1.now in
    record {
      written = first_none (g.O.Sink.writing c.args.out.now) c.args.text.now (joined (drop 0 ps) ++ last) (items_of (drop 0 ps)) (items_of ps)
          (sym c.parts.ensures.joined ∙ ap (λ qs. joined qs ++ last) (drop_none ps)) (ap items_of (sym (drop_none ps)));
      later = le_refl _;
    }

pub returns-in_err-write_piece-clause-err : goal.returns-in_err-write_piece-clause-err
returns-in_err-write_piece-clause-err g c =
    let ps = c.parts.result.0.now in
    let last : List ℕ = c.parts.result.1.now in
    let i : ℕ = c.loop-piece.piece-index in
    let piece : List ℕ = c.piece-item.result.items in
    let rest : List ℕ = joined (drop (i + 1) ps) ++ last in
    let start = g.O.Sink.writing c.args.out.now in
    let mid = g.O.Sink.writing c.loop-piece.out in
    let now = g.O.Sink.writing c.write_piece.new.out in
    on_err_any c.from_residual.result _
    (piece_stops_text start mid now c.args.text.now piece rest last (items_of (drop (i + 1) ps)) (items_of ps) c.parts.ensures.long
    (first_as start mid c.args.text.now (joined (drop i ps) ++ last) (piece ++ rest) (items_of (drop i ps)) (piece ∷ items_of (drop (i + 1) ps)) (items_of ps)
    (pieces_left ps last i c.piece-item.result c.loop-piece-test.true c.piece-item.is) (items_left ps i c.piece-item.result c.loop-piece-test.true c.piece-item.is)
    c.loop-piece.invariant.written)
    (subst (λ (xs : List ℕ). StopsPiece mid now xs) c.deref.ensures.value c.in_err-write_piece.ensures.err))

pub loop-piece-preserved : goal.loop-piece-preserved
loop-piece-preserved g c =
    let ps = c.parts.result.0.now in
    let last : List ℕ = c.parts.result.1.now in
    let i : ℕ = c.loop-piece.piece-index in
    let piece : List ℕ = c.piece-item.result.items in
    let rest : List ℕ = joined (drop (i + 1) ps) ++ last in
    let start = g.O.Sink.writing c.args.out.now in
    let mid = g.O.Sink.writing c.loop-piece.out in
    let now = g.O.Sink.writing c.write_piece.new.out in
    record {
      written = first_more start mid now c.args.text.now piece rest (items_of (drop (i + 1) ps)) (items_of ps)
          (first_as start mid c.args.text.now (joined (drop i ps) ++ last) (piece ++ rest) (items_of (drop i ps)) (piece ∷ items_of (drop (i + 1) ps)) (items_of ps)
          (pieces_left ps last i c.piece-item.result c.loop-piece-test.true c.piece-item.is) (items_left ps i c.piece-item.result c.loop-piece-test.true c.piece-item.is)
          c.loop-piece.invariant.written)
          (subst (λ (xs : List ℕ). WritesPiece mid now xs []) c.deref.ensures.value c.in_ok-write_piece.ensures.ok);
      later = omega (arith, c.loop-piece.invariant.later, c.in_ok-write_piece.ensures.faults.later);
    }

pub returns-clause-ok : goal.returns-clause-ok
returns-clause-ok g c =
    let ps = c.parts.result.0.now in
    let last : List ℕ = c.parts.result.1.now in
    let i : ℕ = c.loop-piece.piece-index in
    let start = g.O.Sink.writing c.args.out.now in
    let mid = g.O.Sink.writing c.loop-piece.out in
    let now = g.O.Sink.writing c.write_piece-2.new.out in
    let first : WroteFirst start mid c.args.text.now last [] (items_of ps) =
    first_as start mid c.args.text.now (joined (drop i ps) ++ last) last (items_of (drop i ps)) [] (items_of ps)
    (ap (λ qs. joined qs ++ last) (drop_all i ps c.loop-piece-test.false)) (ap items_of (drop_all i ps c.loop-piece-test.false)) c.loop-piece.invariant.written in
    on_ok_map c.write_piece-2.result (WritesPiece mid now last []) (WritesText start now c.args.text.now)
    (λ wrote. text_written start mid now c.args.text.now last (items_of ps) c.parts.ensures.long first wrote) c.write_piece-2.ensures.ok

pub returns-clause-err : goal.returns-clause-err
returns-clause-err g c =
    let ps = c.parts.result.0.now in
    let last : List ℕ = c.parts.result.1.now in
    let i : ℕ = c.loop-piece.piece-index in
    let start = g.O.Sink.writing c.args.out.now in
    let mid = g.O.Sink.writing c.loop-piece.out in
    let now = g.O.Sink.writing c.write_piece-2.new.out in
    let first : WroteFirst start mid c.args.text.now last [] (items_of ps) =
    first_as start mid c.args.text.now (joined (drop i ps) ++ last) last (items_of (drop i ps)) [] (items_of ps)
    (ap (λ qs. joined qs ++ last) (drop_all i ps c.loop-piece-test.false)) (ap items_of (drop_all i ps c.loop-piece-test.false)) c.loop-piece.invariant.written in
    on_err_map c.write_piece-2.result (StopsPiece mid now last) (StopsText start now c.args.text.now)
    (λ stops. last_stops start mid now c.args.text.now last (items_of ps) c.parts.ensures.long first stops) c.write_piece-2.ensures.err
