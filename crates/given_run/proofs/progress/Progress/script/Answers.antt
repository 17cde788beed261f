-- The next step of the lane was made, or none is left.
use Rattle.std.proofs.Common.{◌≡◌, ◌+◌, map, sym, subst, arith}
use Rattle.std.specs.List.{All}
use Rattle.dispatch_history.specs.Effect.{past_of}
use Rattle.dispatch_history.specs.Given.{without_next}
use Rattle.dispatch_history.specs.Ordered.{is_scripted, scripted}
use Rattle.schedule.specs.declared.keeping.Lines.TheVariants.{Kept}
use Rattle.schedule.specs.Planned.{IsStep, step_of}
use Rattle.schedule.proofs.Advancing.{scripted_plain}
use Rattle.given_run.specs.Following.{Comes}
use Rattle.given_run.specs.Lanes.{IsLeft}
use Rattle.given_run.specs.Planned.{whole_plan}
use Rattle.given_run.proofs.Coming.{one_more}
use Rattle.given_run.proofs.progress.Progress.script.Goals as goal

pub returns : goal.returns
returns c = λ cooked n es cs ss h.
    let plan = whole_plan c.args.plan.now cooked in
    let before = subst (Comes (whole_plan c.args.plan.now cooked) n es cs ss) (sym c.self.view_is) h in
    let left : IsLeft (map step_of c.deref.result.now) ss c.self.inside.lanes =
    subst (λ xs. IsLeft (map step_of xs) ss c.self.inside.lanes) (sym c.deref.ensures.value) before.steps_are in
    let call = c.in-Some.step.now.call in
    let step : is_scripted c.in-Some.step.now.call ≡ 1 = c.in-Some.ensures.scripted (subst (All IsStep) (sym c.deref.ensures.value) c.requires.run.steps) in
    let p = scripted_plain c.in-Some.step.now.call step in
    let next : c.steps_made-made.result + 1 ≡ is_scripted c.in-Some.step.now.call + scripted (past_of es) =
    omega (arith, c.steps_made-made.ensures, before.has.next_is, step) in (
      c.in-Some.step.now.call,
      sym (c.in-Some.ensures.step ss left),
      one_more plan n es cs cs ss (without_next c.args.lane ss) _ _ c.in-Some.step.now.call before p.opens_not
          (c.in_ok-step.ensures.after Kept plan es before.has p.receives_not next)
          before.args_are
          (subst (λ xs. IsLeft (map step_of xs) (without_next c.args.lane ss) c.next.new.self) c.deref.ensures.value (c.in-Some.ensures.left ss left)),
    )
