-- One key more.
use Rattle.std.proofs.Common.{◌+◌, ◌++◌, ℕ, List, ap, subst, drop, arith, le_refl, append-nil, ◌∙◌}
use Rattle.std.proofs.lemmas.List.{drop_all}
use Rattle.judge_text.specs.Lines.{key_text, keys_text}
use Rattle.text_output.specs.Passing.{WritesUpTo}
use Rattle.text_output.proofs.Lines.{line_on, line_stops}
use Rattle.text_output.proofs.Passing.{none_written, on_err_any}
use Rattle.text_output.proofs.Pieces.{drop_none}
use Rattle.replay_engine.proofs.StillDown.{keys_left}
use Rattle.replay_engine.proofs.whole.add_keys.Goals as goal

pub loop-key-init : goal.loop-key-init
loop-key-init g c =
    record { written = none_written _ _ _ (ap (λ ps. c.args.line.now ++ keys_text ps) (drop_none c.args.keys.now)); later = le_refl _ }

pub returns-in_err-add_key-clause-err : goal.returns-in_err-add_key-clause-err
returns-in_err-add_key-clause-err g c =
    let ps = c.args.keys.now in
    let i : ℕ = c.loop-key.key-index in
    let h = c.key-item.result in
    let all : List ℕ = c.args.line.now ++ keys_text ps in
    let rest : List ℕ = keys_text (drop (i + 1) ps) in
    let start = g.E.Sink.writing c.args.err.now in
    let mid = g.E.Sink.writing c.loop-key.err in
    let now = g.E.Sink.writing c.add_key.new.err in
    on_err_any c.from_residual.result _
    (line_stops start mid now all c.loop-key.line (key_text h) rest
    (subst (λ (xs : List ℕ). WritesUpTo start mid all (c.loop-key.line ++ xs)) (keys_left ps i h c.loop-key-test.true c.key-item.is) c.loop-key.invariant.written)
    c.in_err-add_key.ensures.err)

pub loop-key-preserved : goal.loop-key-preserved
loop-key-preserved g c =
    let ps = c.args.keys.now in
    let i : ℕ = c.loop-key.key-index in
    let h = c.key-item.result in
    let all : List ℕ = c.args.line.now ++ keys_text ps in
    let rest : List ℕ = keys_text (drop (i + 1) ps) in
    let start = g.E.Sink.writing c.args.err.now in
    let mid = g.E.Sink.writing c.loop-key.err in
    let now = g.E.Sink.writing c.add_key.new.err in
    record {
      written = line_on start mid now all c.loop-key.line (key_text h) rest c.add_key.new.line
          (subst (λ (xs : List ℕ). WritesUpTo start mid all (c.loop-key.line ++ xs)) (keys_left ps i h c.loop-key-test.true c.key-item.is) c.loop-key.invariant.written)
          c.in_ok-add_key.ensures.ok;
      later = omega (arith, c.loop-key.invariant.later, c.in_ok-add_key.ensures.faults.later);
    }

-- everything that remains is held
pub returns-clause-ok : goal.returns-clause-ok
returns-clause-ok g c =
    subst (λ (xs : List ℕ). WritesUpTo (g.E.Sink.writing c.args.err.now) (g.E.Sink.writing c.loop-key.err) (c.args.line.now ++ keys_text c.args.keys.now) xs)
    (ap (λ ps. c.loop-key.line ++ keys_text ps) (drop_all c.loop-key.key-index c.args.keys.now c.loop-key-test.false) ∙ append-nil c.loop-key.line)
    c.loop-key.invariant.written
