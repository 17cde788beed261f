use Rattle.std.proofs.Common.{Err, ap, sym, subst}
use Rattle.gesture_verifier.specs.Told.{Told}
use Rattle.stream_judge.specs.Breaks.{HasPassed}
use Rattle.stream_judge.proofs.Snoc.{breaks_here, passed_more}
use Rattle.stream_judge.proofs.judge.Judge.take.Goals as goal
use Rattle.stream_judge.proofs.judge.Judge.take.Goals.{in-Ok, in-Err-Fault, in-Err-Memory}

pub returns-clause-ok : goal.returns-clause-ok
returns-clause-ok c = λ messages h.
    let inside : HasPassed messages c.self.inside.verifier = subst (λ (t : Told). HasPassed messages t) (sym c.self.view_is) h in
    elim c.match-step.branch [
      | in-Ok w ↦ rw w.result-is (passed_more messages c.args.message.now c.self.inside.verifier _ inside (w.in-Ok.ensures.stands _ inside.stands))
      | in-Err-Fault w ↦ rw w.result-is (breaks_here messages c.args.message.now c.self.inside.verifier inside (w.in-Err-Fault.ensures.breaks _ inside.stands _ (ap (λ e. Err e) w.in-Err-Fault.field-0-is)))
      | in-Err-Memory w ↦ rw w.result-is tt
    ]
