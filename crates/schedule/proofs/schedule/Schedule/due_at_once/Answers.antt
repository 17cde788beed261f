-- No tick, no repeat and no step is due before it.
use Rattle.std.proofs.Common.{◌≡◌, ◌∙◌, ◌≤◌, Some, None, length, map, refl, sym, ap, ap₂, subst, arith}
use Rattle.std.specs.Prelude.{IfSome, slice_get}
use Rattle.std.proofs.lemmas.Option.{slice_get_past, slice_get_read}
use Rattle.dispatch_history.specs.Effect.{past_of}
use Rattle.dispatch_history.specs.History.{moment_of}
use Rattle.dispatch_history.specs.Ordered.{scripted}
use Rattle.dispatcher.specs.Access.{next_repeat}
use Rattle.schedule.specs.Choosing.{NoneOverdue, next_finishes}
use Rattle.schedule.specs.Planned.{plan_of, channel_of}
use Rattle.schedule.specs.State.{ReadyWith}
use Rattle.schedule.proofs.Advancing.{finish_first, repeat_late}
use Rattle.schedule.proofs.schedule.Schedule.due_at_once.Goals as goal

pub returns-in_default : goal.returns-in_default
returns-in_default c = λ how es r overdue.
    let plan = plan_of c.args.plan.now in
    let steps = c.args.plan.now.steps.items in
    let before = subst (ReadyWith how (plan_of c.args.plan.now) es) (sym c.self.view_is) r in
    let stands = before.has.stands in
    let channels = ap (map channel_of) (sym c.deref.ensures.value) in
    let finish = ap (λ cs. next_finishes es 1 cs None) channels ∙ c.in_ok-found.ensures es stands (subst (λ cs. NoneOverdue cs es) channels overdue) in
    let le : c.in_ok-found.found.moment ≤ c.due_from.result = omega (arith, c.if-due_from-at.false, c.get-at.ensures.value) in
    let repeat : IfSome (next_repeat es) (λ r. c.in_ok-found.found.moment ≤ r) =
    subst (λ o. IfSome o (λ r. c.in_ok-found.found.moment ≤ r)) (c.repeat_due.ensures es stands)
    (repeat_late c.in_ok-found.found.moment c.get-at.result c.repeat_due.result (omega (arith, c.if-unwrap_or-at.false, c.unwrap_or.ensures, c.get-at.ensures.value))) in
    let past : slice_get c.args.plan.now.steps.items (scripted (past_of es)) ≡ None =
    sym (ap₂ slice_get c.deref-2.ensures.value before.has.next_is) ∙ slice_get_past c.deref-2.result.now c.self.inside.next c.in_default.ensures.lookup.3 in (
      omega (arith, c.if-get-at.false, c.get-at.ensures.value, c.get.ensures.value),
      finish_first c.self.inside.dispatcher.displays plan es c.in_ok-found.found.moment c.in_ok-found.found.channel c.in_ok-found.found.seq c.due_from.result steps
          stands.lawful before.caught finish le (c.due_from.ensures es stands) repeat refl None past tt,
    )

pub returns-else-get-at-2 : goal.returns-else-get-at-2
returns-else-get-at-2 c = λ how es r overdue.
    let plan = plan_of c.args.plan.now in
    let steps = c.args.plan.now.steps.items in
    let before = subst (ReadyWith how (plan_of c.args.plan.now) es) (sym c.self.view_is) r in
    let stands = before.has.stands in
    let channels = ap (map channel_of) (sym c.deref.ensures.value) in
    let finish = ap (λ cs. next_finishes es 1 cs None) channels ∙ c.in_ok-found.ensures es stands (subst (λ cs. NoneOverdue cs es) channels overdue) in
    let le : c.in_ok-found.found.moment ≤ c.due_from.result = omega (arith, c.if-due_from-at.false, c.get-at.ensures.value) in
    let repeat : IfSome (next_repeat es) (λ r. c.in_ok-found.found.moment ≤ r) =
    subst (λ o. IfSome o (λ r. c.in_ok-found.found.moment ≤ r)) (c.repeat_due.ensures es stands)
    (repeat_late c.in_ok-found.found.moment c.get-at.result c.repeat_due.result (omega (arith, c.if-unwrap_or-at.false, c.unwrap_or.ensures, c.get-at.ensures.value))) in
    let next : slice_get c.args.plan.now.steps.items (scripted (past_of es)) ≡ Some c.in-Some.step.now =
    sym (ap₂ slice_get c.deref-2.ensures.value before.has.next_is)
    ∙ slice_get_read c.deref-2.result.now (length c.deref-2.result.now) c.self.inside.next c.in-Some.step.now refl c.in-Some.ensures.lookup.3.0 c.in-Some.ensures.lookup.1 in
    let later : c.in_ok-found.found.moment ≤ moment_of c.in-Some.step.now.call =
    omega (arith, c.if-get-at-2.false, c.get-at.ensures.value, c.get-3.ensures.value, c.moment.ensures) in (
      omega (arith, c.if-get-at.false, c.get-at.ensures.value, c.get.ensures.value),
      finish_first c.self.inside.dispatcher.displays plan es c.in_ok-found.found.moment c.in_ok-found.found.channel c.in_ok-found.found.seq c.due_from.result steps
          stands.lawful before.caught finish le (c.due_from.ensures es stands) repeat refl (Some c.in-Some.step.now) next later,
    )
