-- Windows that are accepted are shown.
use Rattle.std.proofs.Common.{Ok, Err, inr, subst}
use Rattle.live_input.specs.LimitedCalls.{Accepts}
use Rattle.live_input.specs.State.{latest}
use Rattle.live_input.proofs.Onward.{none_report, refused_as}
use Rattle.live_input.proofs.limit.Limited.windows.Goals as goal

pub returns-in-Ok-show_eased-clause-after : goal.returns-in-Ok-show_eased-clause-after
returns-in-Ok-show_eased-clause-after c = λ ds es h.
    let a = subst (λ ws. Accepts c.args.self.now.live.seats ws (Ok tt)) c.deref.ensures.value c.in-Ok.ensures in
    (a.0, a.1, c.in-Ok-show_eased.ensures.after ds es h)

pub returns-in-Err-show_eased-clause-after : goal.returns-in-Err-show_eased-clause-after
returns-in-Err-show_eased-clause-after c = λ ds es h.
    let a = subst (λ ws. Accepts c.args.self.now.live.seats ws (Ok tt)) c.deref.ensures.value c.in-Ok.ensures in
    (a.0, inr (c.in-Err-show_eased.ensures.after ds es h))

pub returns-in-Err-clause-after : goal.returns-in-Err-clause-after
returns-in-Err-clause-after c = λ ds es h.
    let error = c.in-Err.error in
    refused_as ds (latest c.args.now c.args.self.now.live) c.args.windows.items es error c.args.self.now
    (subst (λ ws. Accepts c.args.self.now.live.seats ws (Err error)) c.deref.ensures.value c.in-Err.ensures)

pub returns-in-Err-clause-reports : goal.returns-in-Err-clause-reports
returns-in-Err-clause-reports c = λ ds es h. none_report c.args.self.now
