-- The windows are shown from where the service was eased.
use Rattle.std.proofs.Common.{map, sym, subst}
use Rattle.std.specs.Prelude.{OnOk}
use Rattle.dispatch_calls.specs.declared.call.Call.TheVariants.{Windows}
use Rattle.live_input.specs.Answers.{Makes}
use Rattle.live_input.specs.Easing.{KeepsReported}
use Rattle.live_input.specs.Limit.{walled}
use Rattle.live_input.specs.State.{latest}
use Rattle.live_input.specs.Windows.{window_of}
use Rattle.live_input.proofs.Eased.{clients_both}
use Rattle.live_input.proofs.Onward.{eases_report, latest_again, reports_after, shows_then}
use Rattle.live_input.proofs.limit.Limited.show_eased.Goals as goal

pub returns-in-Ok-clause-after : goal.returns-in-Ok-clause-after
returns-in-Ok-clause-after c = λ ds es h.
    let old = c.args.self.now in
    let eased = c.ease.new.self in
    let new = c.show_walled.new.self in
    let at = latest_again c.args.now old.live eased.live c.ease.ensures.clock in
    let ws = c.args.windows.items in
    shows_then ds (latest c.args.now old.live) es ws c.show_walled.result old eased new (c.in-Ok.ensures.after ds es h)
    (λ fs there.
    subst (λ t. OnOk c.show_walled.result (Makes ds fs (Windows t (map window_of (walled eased.wanted.choked ws))) new.live)) at
    (c.show_walled.ensures.after ds fs there)) c.show_walled.ensures.wanted c.show_walled.ensures.err

pub returns-in-Ok-clause-clients : goal.returns-in-Ok-clause-clients
returns-in-Ok-clause-clients c = clients_both _ _ _ c.ease.ensures.clients c.show_walled.ensures.clients

pub returns-in-Ok-clause-named : goal.returns-in-Ok-clause-named
returns-in-Ok-clause-named c = subst (λ m. KeepsReported c.args.self.now.live.reported m) (sym c.show_walled.ensures.named) c.ease.ensures.named

pub returns-in-Ok-clause-reports : goal.returns-in-Ok-clause-reports
returns-in-Ok-clause-reports c = λ ds es h.
    reports_after c.args.self.now c.ease.new.self c.show_walled.new.self (eases_report ds _ 5 es c.args.self.now c.ease.new.self (c.in-Ok.ensures.after ds es h).1)
    c.show_walled.ensures.named c.show_walled.ensures.choked

pub returns-in-Err-clause-reports : goal.returns-in-Err-clause-reports
returns-in-Err-clause-reports c = λ ds es h. let x = c.in-Err.ensures.after ds es h in eases_report ds _ x.0 es c.args.self.now c.ease.new.self x.1
