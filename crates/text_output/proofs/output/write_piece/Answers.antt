-- Before the first write all is left, and one more write takes some of it.
use Rattle.std.proofs.Common.{ℕ, List, arith, drop-drop, le_refl, subst, sym}
use Rattle.std.proofs.lemmas.List.{drop_all}
use Rattle.text_output.specs.Passing.{WritesPiece}
use Rattle.text_output.proofs.Passing.{none_of_piece, on_err_any, one_failed, one_write, piece_on}
use Rattle.text_output.proofs.Pieces.{drop_none}
use Rattle.text_output.proofs.output.write_piece.Goals as goal

pub writes-init : goal.writes-init
writes-init g c = record { within = omega arith; written = none_of_piece _ _ _ (drop_none c.args.piece.now); later = le_refl _ }

pub writes-preserved : goal.writes-preserved
writes-preserved g c =
    record {
      within = omega (arith, c.in_ok-at.ensures.bound, c.split_at.ensures.back_len);
      written = piece_on _ _ _ _ _ _ c.writes.invariant.written
          (rw (← drop-drop c.in_ok-at.field-0 c.writes.at c.args.piece.now, ← c.split_at.ensures.back)
          (one_write _ _ _ c.in_ok-at.field-0 (c.in_ok-at.ensures.some (omega (arith, c.writes-test.true, c.split_at.ensures.back_len))) c.in_ok-at.ensures.bound c.in_ok-at.ensures.writing));
      later = omega (arith, c.writes.invariant.later, c.in_ok-at.ensures.later);
    }

pub returns-in_err-at-clause-err : goal.returns-in_err-at-clause-err
returns-in_err-at-clause-err g c =
    let start = g.O.Sink.writing c.args.out.now in
    let mid = g.O.Sink.writing c.writes.out in
    on_err_any c.from_residual.result _
    (one_failed start mid (g.O.Sink.writing c.write.new.self) c.args.piece.now c.split_at.result.1.now
    (subst (λ (xs : List ℕ). WritesPiece start mid c.args.piece.now xs) (sym c.split_at.ensures.back) c.writes.invariant.written)
    (omega (arith, c.writes-test.true, c.split_at.ensures.back_len)) c.in_err-at.ensures.writing)

pub returns-clause-ok : goal.returns-clause-ok
returns-clause-ok g c =
    subst (λ (xs : List ℕ). WritesPiece (g.O.Sink.writing c.args.out.now) (g.O.Sink.writing c.writes.out) c.args.piece.now xs)
    (drop_all c.writes.at c.args.piece.now c.writes-test.false) c.writes.invariant.written
