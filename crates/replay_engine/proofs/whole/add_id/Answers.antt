-- A mark, and then the number.
use Rattle.std.proofs.Common.{◌++◌, ℕ, List, subst}
use Rattle.text_output.specs.Passing.{StopsWithin, WritesUpTo}
use Rattle.text_output.proofs.Passing.{on_err_map, on_ok_map}
use Rattle.replay_engine.proofs.StillDown.{two_parts}
use Rattle.replay_engine.proofs.whole.add_id.Goals as goal

pub returns-clause-ok : goal.returns-clause-ok
returns-clause-ok g c =
    let start = g.E.Sink.writing c.args.err.now in
    let now = g.E.Sink.writing c.add_parts.new.err in
    on_ok_map c.add_parts.result _ _
    (λ wrote. subst (λ (xs : List ℕ). WritesUpTo start now (c.args.line.now ++ xs) c.add_parts.new.self) (two_parts _ _ _ _ c.mark.ensures c.format.ensures.text) wrote)
    c.add_parts.ensures.ok

pub returns-clause-err : goal.returns-clause-err
returns-clause-err g c =
    let start = g.E.Sink.writing c.args.err.now in
    let now = g.E.Sink.writing c.add_parts.new.err in
    on_err_map c.add_parts.result _ _
    (λ stops. subst (λ (xs : List ℕ). StopsWithin start now (c.args.line.now ++ xs)) (two_parts _ _ _ _ c.mark.ensures c.format.ensures.text) stops)
    c.add_parts.ensures.err
