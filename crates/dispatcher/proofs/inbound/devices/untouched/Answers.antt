-- Nothing is down on a device that is put to them.
use Rattle.std.proofs.Common.{◌+◌, [], ◌∷◌, length, sym, subst, ap, ◌∙◌, arith, length-append}
use Rattle.dispatcher.proofs.InboundArgs.Tables.{Blank, blank_none, blank_more, nothing_yet}
use Rattle.dispatcher.proofs.inbound.devices.untouched.Goals as goal

pub devices-init : goal.devices-init
devices-init c = let e = c.in_ok-devices.ensures.items in (ap length e, subst Blank (sym e) blank_none)

pub devices-preserved : goal.devices-preserved
devices-preserved c =
    let e = c.in_ok-push.ensures.items in (
      ap length e ∙ length-append c.devices.devices.items (c.in_ok-device.device ∷ []) ∙ ap (λ n. n + 1) c.devices.invariant.0,
      subst Blank (sym e) (blank_more c.devices.devices.items c.in_ok-device.device c.in_ok-device.ensures c.devices.invariant.1),
    )

pub returns-clause-eight : goal.returns-clause-eight
returns-clause-eight c = omega (arith, c.devices.invariant.0, c.devices.auto.counter-end, c.devices-test.false)

pub returns-clause-nothing : goal.returns-clause-nothing
returns-clause-nothing c = nothing_yet c.devices.devices.items c.devices.invariant.1
