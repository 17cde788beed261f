-- The parts are added, and what is held of them is written.
use Rattle.std.proofs.Common.{ℕ, List, [], ◌++◌, subst}
use Rattle.text_output.specs.Passing.{StopsWithin, WritesAll, WritesUpTo}
use Rattle.text_output.proofs.Passing.{on_err_any, on_err_map, on_ok_map, stops_on, written_on}
use Rattle.text_output.proofs.Pieces.{parts_of}
use Rattle.text_output.proofs.telling.write_parts.Goals as goal

pub returns-in_err-add_parts-clause-err : goal.returns-in_err-add_parts-clause-err
returns-in_err-add_parts-clause-err g c =
    let start = g.E.Sink.writing c.args.err.now in
    let now = g.E.Sink.writing c.add_parts.new.err in
    on_err_any c.from_residual.result _
    (subst (λ (xs : List ℕ). StopsWithin start now (xs ++ parts_of c.args.parts.now)) c.new-line.ensures c.in_err-add_parts.ensures.err)

pub returns-clause-ok : goal.returns-clause-ok
returns-clause-ok g c =
    let all : List ℕ = parts_of c.args.parts.now in
    let start = g.E.Sink.writing c.args.err.now in
    let mid = g.E.Sink.writing c.add_parts.new.err in
    let now = g.E.Sink.writing c.end.new.err in
    let held : List ℕ = c.add_parts.new.self in
    let added : WritesUpTo start mid all held = subst (λ (xs : List ℕ). WritesUpTo start mid (xs ++ all) held) c.new-line.ensures c.in_ok-add_parts.ensures.ok in
    on_ok_map c.end.result (WritesAll mid now held) (WritesAll start now all) (λ wrote. written_on start mid now all held [] added wrote) c.end.ensures.ok

pub returns-clause-err : goal.returns-clause-err
returns-clause-err g c =
    let all : List ℕ = parts_of c.args.parts.now in
    let start = g.E.Sink.writing c.args.err.now in
    let mid = g.E.Sink.writing c.add_parts.new.err in
    let now = g.E.Sink.writing c.end.new.err in
    let held : List ℕ = c.add_parts.new.self in
    let added : WritesUpTo start mid all held = subst (λ (xs : List ℕ). WritesUpTo start mid (xs ++ all) held) c.new-line.ensures c.in_ok-add_parts.ensures.ok in
    on_err_map c.end.result (StopsWithin mid now held) (StopsWithin start now all) (λ stops. stops_on start mid now all held added stops) c.end.ensures.err
