-- One more device.
use Rattle.std.proofs.Common.{◌≡◌, ◌+◌, ◌<◌, get_or, length, refl}
use Rattle.command_files.specs.Cooked.{device_plan}
use Rattle.command_files.proofs.Readers.{plans_next, count_push}
use Rattle.command_files.proofs.counting.tallies_of.Goals as goal

pub loop-device-preserved : goal.loop-device-preserved
loop-device-preserved c =
    let ds = c.args.plan.now.devices.items in
    let displays = c.args.plan.now.displays.items in
    let i = c.loop-device.device-index in
    let device = c.device-item.result in
    let within : i < length ds = rw (← c.deref-device-items.ensures.value) c.loop-device-test.true in
    let is : device ≡ get_or ds i device = rw (← c.deref-device-items.ensures.value) c.device-item.is in
    rw (c.in_ok-push.ensures.items, plans_next displays ds i device within is)
    (count_push _ _ (device_plan displays (i + 1) device.kind) _ c.loop-device.invariant
    (record { kind_counted = rw c.deref.ensures.value at (c.tally_of-kind.ensures (i + 1)); args_are = refl }))
