use Rattle.std.proofs.Common.{◌+◌}
use Rattle.device_reader.specs.CookedList.{of_device}
use Rattle.inspect_text.specs.CountedHints.{counts_hint}
use Rattle.inspect_text.proofs.Each.{device_more}
use Rattle.inspect_text.proofs.counted_hints.add_all_counts.Goals as goal

pub loop-place-preserved : goal.loop-place-preserved
loop-place-preserved c =
    λ plans past counted.
    device_more counts_hint plans past c.args.devices.now c.loop-place.place c.index-devices-place.result _ c.loop-place.text.items c.add_counts.new.text.items counted
    c.loop-place-test.true
    c.index-devices-place.is
    (λ plan stands. c.in_ok-add_counts.ensures plan (of_device (c.loop-place.place + 1) past) stands)
    (c.loop-place.invariant plans past counted)
