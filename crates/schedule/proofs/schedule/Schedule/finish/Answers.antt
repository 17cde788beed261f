-- A round before the end, or none.
use Rattle.std.proofs.Common.{◌≡◌, ◌∙◌, max, false, refl, sym, ap, ap₂, subst}
use Rattle.schedule.specs.Choosing.{Advances, NoneOverdue}
use Rattle.schedule.specs.Ends.{last_step}
use Rattle.schedule.specs.Planned.{plan_of}
use Rattle.schedule.specs.State.{is_over}
use Rattle.schedule.proofs.Overdue.{run_overdue}
use Rattle.schedule.proofs.Running.{closing, closing_next, closing_done, closing_over, end_is}
use Rattle.schedule.proofs.schedule.Schedule.finish.Goals as goal

pub rounds-init : goal.rounds-init
rounds-init c =
    record {
      closing = λ how given r. (
        closing how (plan_of c.args.plan.now) given c.args.self.now r,
        c.later-end.ensures
            ∙ ap (max c.args.plan.now.until) (c.later.ensures ∙ ap₂ max (c.last_step.ensures ∙ ap (last_step 0) c.deref.ensures.value) (ap (λ s. s.latest) c.self.view_is))
            ∙ end_is (plan_of c.args.plan.now) given c.args.plan.now.steps.items c.args.self.now.latest refl r.latest_is,
      );
      more = λ es k. k;
    }

pub returns-then-not-branch-clause-completed : goal.returns-then-not-branch-clause-completed
returns-then-not-branch-clause-completed c = λ how given r.
    let h = c.rounds.invariant.closing how given r in
    let overdue : NoneOverdue (plan_of c.args.plan.now).channels h.0.es = run_overdue c.args.plan.now given h.0.es c.requires h.0.rounds in
    let over : is_over c.rounds.self ≡ false = sym c.is_too_long.ensures.over ∙ c.rounds-test.true in
    closing_done how (plan_of c.args.plan.now) given c.later-end.result c.rounds.self c.advance.new.self h.0 over h.1
    (subst (Advances how (plan_of c.args.plan.now) c.later-end.result h.0.es c.rounds.self c.advance.new.self) c.if-not-branch.true (c.in_ok-advance.ensures.after how h.0.es h.0.ready overdue))

pub rounds-preserved : goal.rounds-preserved
rounds-preserved c =
    record {
      closing = λ how given r.
          let h = c.rounds.invariant.closing how given r in
          let overdue : NoneOverdue (plan_of c.args.plan.now).channels h.0.es = run_overdue c.args.plan.now given h.0.es c.requires h.0.rounds in
          let over : is_over c.rounds.self ≡ false = sym c.is_too_long.ensures.over ∙ c.rounds-test.true in (
            closing_next how (plan_of c.args.plan.now) given c.later-end.result c.rounds.self c.advance.new.self h.0 over h.1
                (subst (Advances how (plan_of c.args.plan.now) c.later-end.result h.0.es c.rounds.self c.advance.new.self) c.if-not-branch.false (c.in_ok-advance.ensures.after how h.0.es h.0.ready overdue)),
            h.1,
          );
      more = λ es k. c.advance.ensures.more.on es (c.rounds.invariant.more es k);
    }

pub returns-clause-completed : goal.returns-clause-completed
returns-clause-completed c = λ how given r. closing_over how (plan_of c.args.plan.now) given c.rounds.self (c.rounds.invariant.closing how given r).0 (sym c.is_too_long.ensures.over ∙ c.rounds-test.false)
