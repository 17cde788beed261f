-- The counts of the event's device take it, and the others stay.
use Rattle.std.specs.Prelude.{◌≡◌, ◌+◌, get_or, slice_get, Some}
use Rattle.std.proofs.Common.{sym, ◌∙◌, arith}
use Rattle.std.proofs.lemmas.Option.{slice_get-get_or}
use Rattle.device_reader.specs.Cooked.{DevicePlan}
use Rattle.device_reader.specs.CookedList.{of_device}
use Rattle.device_reader.proofs.All.{added_here, element, on_ok}
use Rattle.recording_counts.specs.declared.device.DeviceTally.{DeviceTally}
use Rattle.recording_counts.proofs.Counting.{counted_past, counted_set}
use Rattle.recording_counts.proofs.event_tally.take_any.Goals as goal

pub returns-then-i-devices : goal.returns-then-i-devices
returns-then-i-devices c = λ plans past args h.
    let d : c.args.event.now.device ≡ c.from-i.result + 1 = omega (arith, c.from-i.ensures, c.get.ensures.value, c.get.ensures.range) in
    let tally : DeviceTally = get_or c.args.devices.now c.from-i.result c.index-devices-i.result in
    let here : slice_get c.args.devices.now c.from-i.result ≡ Some tally =
    slice_get-get_or c.args.devices.now c.from-i.result c.index-devices-i.result c.if-i-devices.true in
    let found : (plan : DevicePlan) × (slice_get plans c.from-i.result ≡ Some plan) = element plans c.from-i.result (omega (arith, h.as_many, c.if-i-devices.true)) in
    on_ok c.take.result
    (λ s. counted_set plans past c.args.devices.now c.args.event.now c.from-i.result found.0 c.take.new.self h d c.if-i-devices.true found.1 s)
    (c.take.ensures found.0 (of_device (c.from-i.result + 1) past)
    (args ∙ sym (added_here plans past c.args.event.now c.from-i.result found.0 d found.1)) (h.each c.from-i.result found.0 tally found.1 here))

pub returns-else-i-devices : goal.returns-else-i-devices
returns-else-i-devices c = λ plans past args h.
    counted_past plans past c.args.devices.now c.args.event.now h (omega (arith, c.from-i.ensures, c.get.ensures.value, c.get.ensures.range, c.if-i-devices.false))
