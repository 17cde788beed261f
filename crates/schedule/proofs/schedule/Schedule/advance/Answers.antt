-- The step that comes first, or what is due.
use Rattle.std.proofs.Common.{◌≡◌, ◌∙◌, Option, Some, None, map, refl, sym, ap, ap₂, subst}
use Rattle.std.specs.Prelude.{option_map}
use Rattle.dispatch_history.specs.Effect.{past_of}
use Rattle.dispatch_history.specs.Ordered.{Candidate, scripted, soonest}
use Rattle.schedule.specs.Choosing.{dues_of, first_step}
use Rattle.schedule.specs.DueView.{candidate_of}
use Rattle.schedule.specs.Planned.{plan_of, channel_of}
use Rattle.schedule.specs.State.{ReadyWith}
use Rattle.schedule.proofs.Advancing.{step_first, due_first}
use Rattle.schedule.proofs.schedule.Schedule.advance.Goals as goal

pub returns-in-Some-clause-after : goal.returns-in-Some-clause-after
returns-in-Some-clause-after c = λ how es r overdue.
    let plan = plan_of c.args.plan.now in
    let before = subst (ReadyWith how (plan_of c.args.plan.now) es) (sym c.self.view_is) r in
    let due : Option Candidate = option_map candidate_of c.next_due-due.result in
    let found : due ≡ soonest (dues_of (plan_of c.args.plan.now) es) = c.next_due-due.ensures plan es before.has.stands before.has.displays_are before.caught
    (ap (map channel_of) (sym c.deref.ensures.value)) overdue in
    let e : first_step c.args.plan.now.steps.items (scripted (past_of es)) due ≡ Some c.in-Some.step.now =
    sym (ap₂ (λ xs n. first_step xs n due) c.deref-2.ensures.value before.has.next_is) ∙ sym c.in-Some.ensures.value in
    let first = step_first plan es due c.args.plan.now.steps.items c.in-Some.step.now found refl c.requires.steps e in
    c.advance_step.ensures.after how plan es r first.1 first.0

pub returns-in-None-clause-after : goal.returns-in-None-clause-after
returns-in-None-clause-after c = λ how es r overdue.
    let plan = plan_of c.args.plan.now in
    let before = subst (ReadyWith how (plan_of c.args.plan.now) es) (sym c.self.view_is) r in
    let due : Option Candidate = option_map candidate_of c.next_due-due.result in
    let found : due ≡ soonest (dues_of (plan_of c.args.plan.now) es) = c.next_due-due.ensures plan es before.has.stands before.has.displays_are before.caught
    (ap (map channel_of) (sym c.deref.ensures.value)) overdue in
    let e : first_step c.args.plan.now.steps.items (scripted (past_of es)) due ≡ None =
    sym (ap₂ (λ xs n. first_step xs n due) c.deref-2.ensures.value before.has.next_is) ∙ sym c.in-None.ensures.value in
    c.advance_due.ensures.after how plan es r (due_first plan es due c.args.plan.now.steps.items found refl e)
