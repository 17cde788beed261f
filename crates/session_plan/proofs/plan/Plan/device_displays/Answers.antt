-- One more device.
use Rattle.std.proofs.Common.{◌≡◌, ℕ, ◌-◌, ◌+◌, ◌<◌, List, length, get_or, arith, subst, ap, ◌∙◌}
use Rattle.std.specs.Prelude.{slice_set}
use Rattle.session_plan.specs.declared.plan.DevicePlan.{DevicePlan}
use Rattle.session_plan.proofs.DeviceDisplays.{displays_next}
use Rattle.session_plan.proofs.plan.Plan.device_displays.Goals as goal

pub loop-i-preserved : goal.loop-i-preserved
loop-i-preserved c =
    let ds : List DevicePlan = c.args.self.now.devices.items in
    let i : ℕ = c.loop-i.i in
    let number : c.unwrap-number.result ≡ i + 1 = rw c.unwrap-number.ensures at c.new.ensures.value in
    let place : c.unwrap-number.result - 1 ≡ i = omega (arith, number) in
    let within : i < length ds = subst (λ (xs : List DevicePlan). i < length xs) c.deref-device-items.ensures.value c.loop-i-test.true in
    let is : c.device-item.result ≡ get_or ds i c.device-item.result = subst (λ (xs : List DevicePlan). c.device-item.result ≡ get_or xs i c.device-item.result) c.deref-device-items.ensures.value c.device-item.is in
    c.set.ensures.after
    ∙ ap (λ n. slice_set c.loop-i.displays n c.display.result) place
    ∙ ap (λ xs. slice_set xs i c.display.result) c.loop-i.invariant
    ∙ ap (slice_set _ i) c.display.ensures
    ∙ displays_next ds i c.device-item.result c.requires within is
