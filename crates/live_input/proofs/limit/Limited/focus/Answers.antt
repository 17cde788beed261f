-- The focus is requested from where the service was eased.
use Rattle.std.proofs.Common.{◌≡◌, true, sym, ◌∙◌, subst}
use Rattle.std.specs.Prelude.{OnOk}
use Rattle.dispatch_calls.specs.declared.call.Call.TheVariants.{FocusOn}
use Rattle.live_input.specs.Answers.{Makes}
use Rattle.live_input.specs.Easing.{KeepsReported}
use Rattle.live_input.specs.Limit.{unless_choked, with_request}
use Rattle.live_input.specs.Showing.{channel_of, may_ask}
use Rattle.live_input.specs.State.{latest}
use Rattle.live_input.proofs.Eased.{clients_both}
use Rattle.live_input.proofs.Onward.{asks_then, eases_report, latest_again, none_report, reports_after}
use Rattle.live_input.proofs.limit.Limited.focus.Goals as goal

pub returns-in-Ok-clause-after : goal.returns-in-Ok-clause-after
returns-in-Ok-clause-after c = λ ds es h.
    let old = c.args.self.now in
    let eased = c.ease.new.self in
    let new = c.ask_for.new.self in
    let y = c.args.display in
    let k = c.args.client in
    let at = latest_again c.args.now old.live eased.live c.ease.ensures.clock in
    let may : may_ask old.live.seats k ≡ true = sym c.may_ask.ensures ∙ c.if-not-may_ask.false in
    asks_then ds (latest c.args.now old.live) y k es c.ask_for.result old eased new may (c.in-Ok.ensures.after ds es h)
    (λ fs there.
    subst (λ t. OnOk c.ask_for.result (Makes ds fs (FocusOn t y (channel_of (unless_choked eased.wanted.choked k)) true) new.live
    × (new.wanted ≡ with_request y k eased.wanted))) at (c.ask_for.ensures.ok ds fs there)) c.ask_for.ensures.err

pub returns-in-Err-clause-after : goal.returns-in-Err-clause-after
returns-in-Err-clause-after c = λ ds es h.
    let may : may_ask c.args.self.now.live.seats c.args.client ≡ true = sym c.may_ask.ensures ∙ c.if-not-may_ask.false in
    (may, c.in-Err.ensures.after ds es h)

pub returns-in-Ok-clause-clients : goal.returns-in-Ok-clause-clients
returns-in-Ok-clause-clients c = clients_both _ _ _ c.ease.ensures.clients c.ask_for.ensures.clients

pub returns-in-Ok-clause-named : goal.returns-in-Ok-clause-named
returns-in-Ok-clause-named c = subst (λ m. KeepsReported c.args.self.now.live.reported m) (sym c.ask_for.ensures.named) c.ease.ensures.named

pub returns-then-not-may_ask-clause-reports : goal.returns-then-not-may_ask-clause-reports
returns-then-not-may_ask-clause-reports c = λ ds es h. none_report c.args.self.now

pub returns-in-Ok-clause-reports : goal.returns-in-Ok-clause-reports
returns-in-Ok-clause-reports c = λ ds es h.
    reports_after c.args.self.now c.ease.new.self c.ask_for.new.self (eases_report ds _ 5 es c.args.self.now c.ease.new.self (c.in-Ok.ensures.after ds es h).1)
    c.ask_for.ensures.named c.ask_for.ensures.choked

pub returns-in-Err-clause-reports : goal.returns-in-Err-clause-reports
returns-in-Err-clause-reports c = λ ds es h. let x = c.in-Err.ensures.after ds es h in eases_report ds _ x.0 es c.args.self.now c.ease.new.self x.1
