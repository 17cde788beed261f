-- One call more.
use Rattle.std.proofs.Common.{◌≡◌, ◌+◌, sym, subst, arith}
use Rattle.dispatch_history.specs.Effect.{past_of}
use Rattle.dispatch_history.specs.Ordered.{is_scripted, scripted}
use Rattle.schedule.specs.declared.keeping.Lines.TheVariants.{Kept}
use Rattle.schedule.proofs.Stepping.{on_ok}
use Rattle.given_run.specs.Following.{Comes}
use Rattle.given_run.proofs.Coming.{one_more}
use Rattle.given_run.proofs.progress.Progress.call.Goals as goal

pub returns : goal.returns
returns c = λ plan n es cs ss h.
    let before = subst (Comes plan n es cs ss) (sym c.self.view_is) h in
    let next : c.steps_made-next.result ≡ is_scripted c.args.call.now + scripted (past_of es) =
    omega (arith, c.steps_made-next.ensures, before.has.next_is, c.requires.scripted_not) in
    on_ok c.step.result _ _ (c.step.ensures.after Kept plan es before.has c.requires.plain next)
    (λ has. one_more plan n es cs cs ss ss _ _ c.args.call.now before c.requires.opens_not has before.args_are before.steps_are)
