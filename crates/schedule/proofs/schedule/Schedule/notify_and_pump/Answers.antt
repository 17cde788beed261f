-- Past the channels, at once, or one call after the other.
use Rattle.std.proofs.Common.{sym, ap, ◌∙◌, subst}
use Rattle.dispatch_calls.specs.declared.call.Call.TheVariants.{Notify}
use Rattle.dispatch_history.specs.Legal.{answered}
use Rattle.dispatcher.specs.Access.{gone}
use Rattle.schedule.specs.State.{HasWith, ScheduleState}
use Rattle.schedule.proofs.More.{goes_twice}
use Rattle.schedule.proofs.MovedPast.{left_two}
use Rattle.schedule.proofs.Stepping.{on_ok_any}
use Rattle.schedule.proofs.schedule.Schedule.notify_and_pump.Goals as goal

pub returns-then-past-clause-after : goal.returns-then-past-clause-after
returns-then-past-clause-after c = λ how plan es h. c.in_ok-past.ensures.done how plan es h c.if-past.true

pub returns-then-past-clause-keeps : goal.returns-then-past-clause-keeps
returns-then-past-clause-keeps c = λ how plan es r. λ k low idle. c.in_ok-past.ensures.all how plan es r c.if-past.true k low

pub returns-then-done-clause-after : goal.returns-then-done-clause-after
returns-then-done-clause-after c = λ how plan es h.
    c.in_ok-done.ensures.done how plan es (subst (HasWith how plan es) (sym (c.in_ok-past.ensures.undone c.if-past.false)) h) c.if-done.true

pub returns-then-done-clause-keeps : goal.returns-then-done-clause-keeps
returns-then-done-clause-keeps c = λ how plan es r.
    left_two how plan es _ c.dispatch.new.self.dispatcher c.args.now c.args.args.now r
    (λ k low. c.dispatch.ensures.gone k low ∙ ap (λ (s : ScheduleState). gone s.dispatcher k) (c.in_ok-past.ensures.undone c.if-past.false))

pub returns-clause-after : goal.returns-clause-after
returns-clause-after c = λ how plan es h.
    let before = subst (HasWith how plan es) (sym (c.in_ok-done.ensures.undone c.if-done.false ∙ c.in_ok-past.ensures.undone c.if-past.false)) h in
    c.pump.ensures.after how plan (answered plan.displays (Notify c.args.now c.args.args.now) es) (c.in_ok-notify.ensures.after how plan es before)

pub returns-clause-keeps : goal.returns-clause-keeps
returns-clause-keeps c = λ how plan es r.
    on_ok_any c.pump.result _
    (left_two how plan es _ c.pump.new.self.dispatcher c.args.now c.args.args.now r
    (λ k low.
    c.pump.ensures.kept.gone k low
    ∙ c.notify.ensures.kept.gone k low
    ∙ c.dispatch.ensures.gone k low
    ∙ ap (λ (s : ScheduleState). gone s.dispatcher k) (c.in_ok-past.ensures.undone c.if-past.false)))

pub returns-clause-more : goal.returns-clause-more
returns-clause-more c = goes_twice c.pump.ensures.kept.more (goes_twice c.notify.ensures.kept.more (goes_twice c.dispatch.ensures.more c.move_past.ensures.more))

pub returns-in_err-notify-clause-more : goal.returns-in_err-notify-clause-more
returns-in_err-notify-clause-more c = goes_twice c.notify.ensures.kept.more (goes_twice c.dispatch.ensures.more c.move_past.ensures.more)

pub returns-then-done-clause-more : goal.returns-then-done-clause-more
returns-then-done-clause-more c = goes_twice c.dispatch.ensures.more c.move_past.ensures.more

pub returns-in_err-done-clause-more : goal.returns-in_err-done-clause-more
returns-in_err-done-clause-more c = goes_twice c.dispatch.ensures.more c.move_past.ensures.more
