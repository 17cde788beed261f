-- One device more.
use Rattle.std.proofs.Common.{◌+◌, ◌++◌, ℕ, List, ap, subst, drop, arith, le_refl, append-nil, ◌∙◌}
use Rattle.std.proofs.lemmas.List.{drop_all}
use Rattle.judge_text.specs.Lines.{pointers_text}
use Rattle.text_output.specs.Passing.{WritesUpTo}
use Rattle.text_output.proofs.Lines.{line_on, line_stops}
use Rattle.text_output.proofs.Passing.{none_written, on_err_any}
use Rattle.text_output.proofs.Pieces.{drop_none}
use Rattle.replay_engine.proofs.StillDown.{held_text, pointers_left, seen}
use Rattle.replay_engine.proofs.whole.add_pointers.Goals as goal

pub loop-held-init : goal.loop-held-init
loop-held-init g c =
    record { written = none_written _ _ _ (ap (λ ps. c.args.line.now ++ pointers_text (seen ps)) (drop_none c.args.pointers.now)); later = le_refl _ }

pub returns-in_err-add_held-clause-err : goal.returns-in_err-add_held-clause-err
returns-in_err-add_held-clause-err g c =
    let ps = c.args.pointers.now in
    let i : ℕ = c.loop-held.held-index in
    let h = c.held-item.result in
    let all : List ℕ = c.args.line.now ++ pointers_text (seen ps) in
    let rest : List ℕ = pointers_text (seen (drop (i + 1) ps)) in
    let start = g.E.Sink.writing c.args.err.now in
    let mid = g.E.Sink.writing c.loop-held.err in
    let now = g.E.Sink.writing c.add_held.new.err in
    on_err_any c.from_residual.result _
    (line_stops start mid now all c.loop-held.line (held_text h) rest
    (subst (λ (xs : List ℕ). WritesUpTo start mid all (c.loop-held.line ++ xs)) (pointers_left ps i h c.loop-held-test.true c.held-item.is) c.loop-held.invariant.written)
    c.in_err-add_held.ensures.err)

pub loop-held-preserved : goal.loop-held-preserved
loop-held-preserved g c =
    let ps = c.args.pointers.now in
    let i : ℕ = c.loop-held.held-index in
    let h = c.held-item.result in
    let all : List ℕ = c.args.line.now ++ pointers_text (seen ps) in
    let rest : List ℕ = pointers_text (seen (drop (i + 1) ps)) in
    let start = g.E.Sink.writing c.args.err.now in
    let mid = g.E.Sink.writing c.loop-held.err in
    let now = g.E.Sink.writing c.add_held.new.err in
    record {
      written = line_on start mid now all c.loop-held.line (held_text h) rest c.add_held.new.line
          (subst (λ (xs : List ℕ). WritesUpTo start mid all (c.loop-held.line ++ xs)) (pointers_left ps i h c.loop-held-test.true c.held-item.is) c.loop-held.invariant.written)
          c.in_ok-add_held.ensures.ok;
      later = omega (arith, c.loop-held.invariant.later, c.in_ok-add_held.ensures.faults.later);
    }

-- everything that remains is held
pub returns-clause-ok : goal.returns-clause-ok
returns-clause-ok g c =
    subst (λ (xs : List ℕ). WritesUpTo (g.E.Sink.writing c.args.err.now) (g.E.Sink.writing c.loop-held.err) (c.args.line.now ++ pointers_text (seen c.args.pointers.now)) xs)
    (ap (λ ps. c.loop-held.line ++ pointers_text (seen ps)) (drop_all c.loop-held.held-index c.args.pointers.now c.loop-held-test.false) ∙ append-nil c.loop-held.line)
    c.loop-held.invariant.written
