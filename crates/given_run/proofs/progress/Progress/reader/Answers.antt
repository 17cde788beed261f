-- The next args were handed in, or none are left.
use Rattle.std.proofs.Common.{◌≡◌, ◌∙◌, ◌+◌, ◌<◌, length, ap, refl, sym, subst, arith}
use Rattle.std.specs.Prelude.{drop}
use Rattle.dispatch_calls.specs.declared.call.Call.TheVariants.{Notify}
use Rattle.dispatch_history.specs.Effect.{past_of}
use Rattle.dispatch_history.specs.Given.{without_first}
use Rattle.dispatch_history.specs.Ordered.{scripted}
use Rattle.schedule.specs.declared.keeping.Lines.TheVariants.{Kept}
use Rattle.given_run.specs.Following.{Comes}
use Rattle.given_run.proofs.Coming.{args_next, one_more}
use Rattle.given_run.proofs.progress.Progress.reader.Goals as goal

pub returns : goal.returns
returns c = λ plan n es cs ss h are.
    let before = subst (Comes plan n es cs ss) (sym c.self.view_is) h in
    let is = rw c.in-Some.is at c.get.ensures.lookup in
    let within : c.self.inside.taken < length c.args.cooked.now = is.3.0 in
    let first = args_next c.args.cooked.now c.self.inside.taken c.in-Some.next.now cs within (sym is.1) (before.args_are ∙ ap (drop c.self.inside.taken) are) in
    let made : c.steps_made-made.result ≡ 0 + scripted (past_of es) = omega (arith, c.steps_made-made.ensures, before.has.next_is) in (
      Notify c.in-Some.next.now.moment c.in-Some.next.now.args,
      first.0,
      one_more plan n es cs (without_first cs) ss ss _ _ (Notify c.in-Some.next.now.moment c.in-Some.next.now.args) before refl
          (c.in_ok-step.ensures.after Kept plan es before.has refl made)
          (first.1 ∙ sym (ap (drop (c.self.inside.taken + 1)) are)) before.steps_are,
    )
