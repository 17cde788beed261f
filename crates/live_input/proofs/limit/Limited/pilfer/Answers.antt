-- The pilfer is made from where the service was eased.
use Rattle.std.proofs.Common.{inl, inr, refl, sym, ap, ◌∙◌, subst}
use Rattle.std.proofs.lemmas.Bool.{true≢false}
use Rattle.dispatch_calls.specs.declared.call.Call.TheVariants.{Pilfer}
use Rattle.live_input.specs.Answers.{Pilfers}
use Rattle.live_input.specs.Easing.{KeepsReported}
use Rattle.live_input.specs.Seats.{is_open}
use Rattle.live_input.specs.State.{latest}
use Rattle.live_input.proofs.Eased.{clients_both, limited}
use Rattle.live_input.proofs.Onward.{eased_then, eases_report, latest_again, none_report, reports_after}
use Rattle.live_input.proofs.limit.Limited.pilfer.Goals as goal

pub returns-then-not-is_open-clause-after : goal.returns-then-not-is_open-clause-after
returns-then-not-is_open-clause-after c = λ ds es h is. absurd (true≢false (sym is ∙ sym c.is_open.ensures ∙ c.if-not-is_open.true))

pub returns-in-Ok-clause-after : goal.returns-in-Ok-clause-after
returns-in-Ok-clause-after c = λ ds es h is.
    let old = c.args.self.now in
    let eased = c.ease.new.self in
    let new = c.pilfer.new.self in
    let k = c.args.client in
    let at = latest_again c.args.now old.live eased.live c.ease.ensures.clock in
    let still = ap (λ ss. is_open ss k) c.ease.ensures.clients.seats_are ∙ is in
    inl
    (eased_then ds (latest c.args.now old.live) es old eased _ (c.in-Ok.ensures.after ds es h)
    (λ fs there.
    (subst (λ t. Pilfers ds fs (Pilfer t k.channel c.args.device) c.pilfer.result eased.live new) at (c.pilfer.ensures.after ds fs there still), refl)))

pub returns-in-Err-clause-after : goal.returns-in-Err-clause-after
returns-in-Err-clause-after c = λ ds es h is. inr (refl, c.in-Err.ensures.after ds es h)

pub returns-in-Ok-clause-clients : goal.returns-in-Ok-clause-clients
returns-in-Ok-clause-clients c = clients_both _ _ _ c.ease.ensures.clients c.pilfer.ensures.clients

pub returns-in-Ok-clause-named : goal.returns-in-Ok-clause-named
returns-in-Ok-clause-named c = subst (λ m. KeepsReported c.args.self.now.live.reported m) (sym c.pilfer.ensures.named) c.ease.ensures.named

pub returns-then-not-is_open-clause-reports : goal.returns-then-not-is_open-clause-reports
returns-then-not-is_open-clause-reports c = λ ds es h. none_report c.args.self.now

pub returns-in-Ok-clause-reports : goal.returns-in-Ok-clause-reports
returns-in-Ok-clause-reports c = λ ds es h.
    reports_after c.args.self.now c.ease.new.self (limited c.pilfer.new.self c.ease.new.self.wanted) (eases_report ds _ 5 es c.args.self.now c.ease.new.self (c.in-Ok.ensures.after ds es h).1) c.pilfer.ensures.named refl

pub returns-in-Err-clause-reports : goal.returns-in-Err-clause-reports
returns-in-Err-clause-reports c = λ ds es h. let x = c.in-Err.ensures.after ds es h in eases_report ds _ x.0 es c.args.self.now c.ease.new.self x.1
