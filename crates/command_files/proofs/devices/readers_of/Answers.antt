-- One more device.
use Rattle.std.proofs.Common.{◌≡◌, ◌<◌, get_or, length, arith}
use Rattle.command_files.proofs.Readers.{plans_next, readers_so_far, stand_push, numbered_push}
use Rattle.command_files.proofs.devices.readers_of.Goals as goal

pub loop-place-preserved : goal.loop-place-preserved
loop-place-preserved c =
    let ds = c.args.plan.now.devices.items
    in let within : c.loop-place.place < length ds = rw (← c.deref-device-items.ensures.value) c.loop-place-test.true
    in let is : c.device-item.result ≡ get_or ds c.loop-place.place c.device-item.result = rw (← c.deref-device-items.ensures.value) c.device-item.is
    in let count = readers_so_far c.args.plan.now.displays.items ds c.loop-place.place c.loop-place.readers.items (omega (arith, within)) c.loop-place.invariant.stand
    in record {
      stand = rw (c.in_ok-push.ensures.items, plans_next c.args.plan.now.displays.items ds c.loop-place.place c.device-item.result within is, ← c.device_number.ensures)
          (stand_push _ _ _ _ c.loop-place.invariant.stand (rw c.deref.ensures.value at c.in_ok-reader.ensures.stands));
      numbered = rw c.in_ok-push.ensures.items
          (numbered_push c.loop-place.readers.items c.in_ok-reader.reader c.loop-place.invariant.numbered
          (omega (arith, c.device_number.ensures, count, c.in_ok-reader.ensures.number)));
    }
