-- One part more.
use Rattle.std.proofs.Common.{◌∙◌, ◌+◌, ◌++◌, ℕ, List, ap, subst, drop, arith, le_refl, append-nil}
use Rattle.std.proofs.lemmas.List.{drop_all}
use Rattle.text_output.specs.Passing.{WritesUpTo}
use Rattle.text_output.proofs.Lines.{line_on, line_stops}
use Rattle.text_output.proofs.Passing.{none_written, on_err_any}
use Rattle.text_output.proofs.Pieces.{drop_none, parts_left, parts_of}
use Rattle.text_output.proofs.line.Line.add_parts.Goals as goal

pub loop-part-init : goal.loop-part-init
loop-part-init g c =
    record { written = none_written _ _ _ (ap (λ ps. c.args.self.now ++ parts_of ps) (drop_none c.args.parts.now)); later = le_refl _ }

pub returns-in_err-add-clause-err : goal.returns-in_err-add-clause-err
returns-in_err-add-clause-err g c =
    let ps = c.args.parts.now in
    let i : ℕ = c.loop-part.part-index in
    let rest : List ℕ = parts_of (drop (i + 1) ps) in
    let all : List ℕ = c.args.self.now ++ parts_of ps in
    let start = g.E.Sink.writing c.args.err.now in
    let mid = g.E.Sink.writing c.loop-part.err in
    let now = g.E.Sink.writing c.add.new.err in
    on_err_any c.from_residual.result _
    (line_stops start mid now all c.loop-part.self _ rest
    (subst (λ (xs : List ℕ). WritesUpTo start mid all (c.loop-part.self ++ xs)) (parts_left ps i _ c.loop-part-test.true) c.loop-part.invariant.written)
    c.in_err-add.ensures.err)

pub loop-part-preserved : goal.loop-part-preserved
loop-part-preserved g c =
    let ps = c.args.parts.now in
    let i : ℕ = c.loop-part.part-index in
    let rest : List ℕ = parts_of (drop (i + 1) ps) in
    let all : List ℕ = c.args.self.now ++ parts_of ps in
    let start = g.E.Sink.writing c.args.err.now in
    let mid = g.E.Sink.writing c.loop-part.err in
    let now = g.E.Sink.writing c.add.new.err in
    record {
      written = line_on start mid now all c.loop-part.self _ rest c.add.new.self
          (subst (λ (xs : List ℕ). WritesUpTo start mid all (c.loop-part.self ++ xs)) (parts_left ps i _ c.loop-part-test.true) c.loop-part.invariant.written)
          c.in_ok-add.ensures.ok;
      later = omega (arith, c.loop-part.invariant.later, c.in_ok-add.ensures.faults.later);
    }

-- everything that remains is held
pub returns-clause-ok : goal.returns-clause-ok
returns-clause-ok g c =
    subst (λ (xs : List ℕ). WritesUpTo (g.E.Sink.writing c.args.err.now) (g.E.Sink.writing c.loop-part.err) (c.args.self.now ++ parts_of c.args.parts.now) xs)
    (ap (λ ps. c.loop-part.self ++ parts_of ps) (drop_all c.loop-part.part-index c.args.parts.now c.loop-part-test.false) ∙ append-nil c.loop-part.self)
    c.loop-part.invariant.written
