-- One receive more.
use Rattle.std.proofs.Common.{refl, sym, subst}
use Rattle.dispatch_calls.specs.declared.call.Call.TheVariants.{Receive}
use Rattle.schedule.specs.declared.keeping.Lines.TheVariants.{Kept}
use Rattle.schedule.proofs.Stepping.{on_ok}
use Rattle.given_run.specs.Following.{Comes}
use Rattle.given_run.proofs.Coming.{one_more}
use Rattle.given_run.proofs.progress.Progress.receive.Goals as goal

pub returns : goal.returns
returns c = λ plan n es cs ss h.
    let before = subst (Comes plan n es cs ss) (sym c.self.view_is) h in
    on_ok c.receive_next.result _ _ (c.receive_next.ensures.after Kept plan es before.has)
    (λ has. one_more plan n es cs cs ss ss _ _ (Receive c.args.channel) before refl has before.args_are before.steps_are)
