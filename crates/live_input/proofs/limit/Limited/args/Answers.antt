-- The args are given from where the service was eased.
use Rattle.std.proofs.Common.{◌≡◌, ◌∷◌, [], inl, inr, refl, sym, ap, ◌∙◌, subst}
use Rattle.std.proofs.lemmas.Bool.{true≢false}
use Rattle.input_types.specs.DeviceRule.{device_of}
use Rattle.device_table.specs.Table.{is_there}
use Rattle.live_input.specs.Easing.{KeepsReported}
use Rattle.live_input.specs.Giving.{Gives}
use Rattle.live_input.specs.State.{latest}
use Rattle.live_input.proofs.Eased.{limited}
use Rattle.live_input.proofs.Onward.{eased_then, eases_report, latest_again, none_report, reports_after, seats_after, seats_of}
use Rattle.live_input.proofs.limit.Limited.args.Goals as goal

pub returns-then-not-has_device-clause-after : goal.returns-then-not-has_device-clause-after
returns-then-not-has_device-clause-after c = λ ds es h is.
    absurd
    (true≢false
    (sym is ∙ sym (ap (is_there c.args.self.now.live.devices) c.device_of.ensures) ∙ sym c.has_device.ensures ∙ c.if-not-has_device.true))

pub returns-in-Ok-clause-after : goal.returns-in-Ok-clause-after
returns-in-Ok-clause-after c = λ ds es h is.
    let old = c.args.self.now in
    let eased = c.ease.new.self in
    let new = c.args-in-Ok.new.self in
    let at = latest_again c.args.now old.live eased.live c.ease.ensures.clock in
    let devices = c.ease.ensures.clients.devices_are in
    let still = ap (λ xs. is_there xs (device_of c.args.args)) devices ∙ is in
    inl
    (eased_then ds (latest c.args.now old.live) es old eased _ (c.in-Ok.ensures.after ds es h)
    (λ fs there. (
      subst (λ xs. Gives ds (latest c.args.now old.live) fs (c.args.args ∷ []) (new.devices ≡ xs) c.args-in-Ok.result eased.live new) devices
          (subst (λ t. Gives ds t fs (c.args.args ∷ []) (new.devices ≡ eased.live.devices) c.args-in-Ok.result eased.live new) at
          (c.args-in-Ok.ensures.after ds fs there still)),
      refl,
    )))

pub returns-in-Err-clause-after : goal.returns-in-Err-clause-after
returns-in-Err-clause-after c = λ ds es h is. inr (refl, c.in-Err.ensures.after ds es h)

pub returns-in-Ok-clause-devices : goal.returns-in-Ok-clause-devices
returns-in-Ok-clause-devices c = c.args-in-Ok.ensures.devices ∙ c.ease.ensures.clients.devices_are

pub returns-in-Err-clause-devices : goal.returns-in-Err-clause-devices
returns-in-Err-clause-devices c = c.ease.ensures.clients.devices_are

pub returns-in-Ok-clause-seats : goal.returns-in-Ok-clause-seats
returns-in-Ok-clause-seats c = seats_after _ _ _ c.ease.ensures.clients c.args-in-Ok.ensures.seats

pub returns-in-Err-clause-seats : goal.returns-in-Err-clause-seats
returns-in-Err-clause-seats c = seats_of _ _ c.ease.ensures.clients

pub returns-in-Ok-clause-named : goal.returns-in-Ok-clause-named
returns-in-Ok-clause-named c = subst (λ m. KeepsReported c.args.self.now.live.reported m) (sym c.args-in-Ok.ensures.named) c.ease.ensures.named

pub returns-then-not-has_device-clause-reports : goal.returns-then-not-has_device-clause-reports
returns-then-not-has_device-clause-reports c = λ ds es h. none_report c.args.self.now

pub returns-in-Ok-clause-reports : goal.returns-in-Ok-clause-reports
returns-in-Ok-clause-reports c = λ ds es h.
    reports_after c.args.self.now c.ease.new.self (limited c.args-in-Ok.new.self c.ease.new.self.wanted) (eases_report ds _ 5 es c.args.self.now c.ease.new.self (c.in-Ok.ensures.after ds es h).1) c.args-in-Ok.ensures.named refl

pub returns-in-Err-clause-reports : goal.returns-in-Err-clause-reports
returns-in-Err-clause-reports c = λ ds es h. let x = c.in-Err.ensures.after ds es h in eases_report ds _ x.0 es c.args.self.now c.ease.new.self x.1
