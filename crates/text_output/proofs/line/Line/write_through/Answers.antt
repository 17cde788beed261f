-- What was held is written, and then the part.
use Rattle.std.proofs.Common.{◌∙◌, ◌++◌, ℕ, List, [], subst}
use Rattle.text_output.specs.Passing.{StopsWithin, WritesAll, WritesUpTo}
use Rattle.text_output.proofs.Lines.{line_through}
use Rattle.text_output.proofs.Passing.{on_err_map, on_ok_map, stops_on, written_more}
use Rattle.text_output.proofs.line.Line.write_through.Goals as goal

pub returns-clause-ok : goal.returns-clause-ok
returns-clause-ok g c =
    let before = g.E.Sink.writing c.args.err.now in
    let mid = g.E.Sink.writing c.write_all.new.out in
    let now = g.E.Sink.writing c.write_all-2.new.out in
    let held : List ℕ = c.args.self.now in
    let part : List ℕ = c.args.part.now in
    let first : WritesAll before mid held = subst (λ (xs : List ℕ). WritesAll before mid xs) (c.as_slice.ensures.value ∙ c.self.view_is) c.in_ok-write_all.ensures.ok in
    on_ok_map c.write_all-2.result (WritesAll mid now c.as_bytes.result.now) (WritesUpTo before now (held ++ part) c.clear.new.self.items)
    (λ wrote. line_through before mid now held part c.clear.new.self.items first (subst (λ (xs : List ℕ). WritesAll mid now xs) c.as_bytes.ensures.value wrote) c.clear.ensures)
    c.write_all-2.ensures.ok

pub returns-clause-err : goal.returns-clause-err
returns-clause-err g c =
    let before = g.E.Sink.writing c.args.err.now in
    let mid = g.E.Sink.writing c.write_all.new.out in
    let now = g.E.Sink.writing c.write_all-2.new.out in
    let held : List ℕ = c.args.self.now in
    let part : List ℕ = c.args.part.now in
    let first : WritesAll before mid held = subst (λ (xs : List ℕ). WritesAll before mid xs) (c.as_slice.ensures.value ∙ c.self.view_is) c.in_ok-write_all.ensures.ok in
    on_err_map c.write_all-2.result (StopsWithin mid now c.as_bytes.result.now) (StopsWithin before now (held ++ part))
    (λ stops. stops_on before mid now (held ++ part) part (written_more before mid held [] part first) (subst (λ (xs : List ℕ). StopsWithin mid now xs) c.as_bytes.ensures.value stops))
    c.write_all-2.ensures.err
