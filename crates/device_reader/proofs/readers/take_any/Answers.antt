-- The reader of the event's device takes it, and the others stay.
use Rattle.std.specs.Prelude.{◌≡◌, ◌+◌, ◌++◌, get_or, slice_get, Some}
use Rattle.std.proofs.Common.{sym, ◌∙◌, ap, arith}
use Rattle.std.proofs.lemmas.List.{append-nil}
use Rattle.std.proofs.lemmas.Option.{slice_get-get_or}
use Rattle.device_reader.specs.Reading.{Reading}
use Rattle.device_reader.specs.Cooked.{DevicePlan}
use Rattle.device_reader.specs.CookedList.{of_device}
use Rattle.device_reader.proofs.All.{added_here, element, numbered_set, stand_set, stand_past, nothing_past, on_ok}
use Rattle.device_reader.proofs.readers.take_any.Goals as goal

pub returns-then-i-readers-clause-ok : goal.returns-then-i-readers-clause-ok
returns-then-i-readers-clause-ok c = λ plans past h.
    let d : c.args.event.now.device ≡ c.from-i.result + 1 = omega (arith, c.from-i.ensures, c.get.ensures.value, c.get.ensures.range) in
    let reader : Reading = get_or c.args.readers.now c.from-i.result c.index-readers-i.result in
    let here : slice_get c.args.readers.now c.from-i.result ≡ Some reader =
    slice_get-get_or c.args.readers.now c.from-i.result c.index-readers-i.result c.if-i-readers.true in
    let found : (plan : DevicePlan) × (slice_get plans c.from-i.result ≡ Some plan) = element plans c.from-i.result (omega (arith, h.as_many, c.if-i-readers.true)) in
    on_ok c.take.result (λ q. q ∙ ap (λ xs. c.args.args.now.items ++ xs) (added_here plans past c.args.event.now c.from-i.result found.0 d found.1))
    (c.take.ensures.ok found.0 (of_device (c.from-i.result + 1) past) (h.each c.from-i.result found.0 reader found.1 here))

pub returns-then-i-readers-clause-after : goal.returns-then-i-readers-clause-after
returns-then-i-readers-clause-after c = λ plans past h.
    let d : c.args.event.now.device ≡ c.from-i.result + 1 = omega (arith, c.from-i.ensures, c.get.ensures.value, c.get.ensures.range) in
    let reader : Reading = get_or c.args.readers.now c.from-i.result c.index-readers-i.result in
    let here : slice_get c.args.readers.now c.from-i.result ≡ Some reader =
    slice_get-get_or c.args.readers.now c.from-i.result c.index-readers-i.result c.if-i-readers.true in
    let found : (plan : DevicePlan) × (slice_get plans c.from-i.result ≡ Some plan) = element plans c.from-i.result (omega (arith, h.as_many, c.if-i-readers.true)) in
    on_ok c.take.result (λ s. stand_set plans past c.args.readers.now c.args.event.now c.from-i.result found.0 c.take.new.self h d c.if-i-readers.true found.1 s)
    (c.take.ensures.after found.0 (of_device (c.from-i.result + 1) past) (h.each c.from-i.result found.0 reader found.1 here))

pub returns-then-i-readers-clause-numbered : goal.returns-then-i-readers-clause-numbered
returns-then-i-readers-clause-numbered c =
    let reader : Reading = get_or c.args.readers.now c.from-i.result c.index-readers-i.result in
    let here : slice_get c.args.readers.now c.from-i.result ≡ Some reader =
    slice_get-get_or c.args.readers.now c.from-i.result c.index-readers-i.result c.if-i-readers.true in
    numbered_set c.args.readers.now c.from-i.result c.take.new.self c.requires c.if-i-readers.true (c.take.ensures.device ∙ c.requires c.from-i.result reader here)

pub returns-else-i-readers-clause-ok : goal.returns-else-i-readers-clause-ok
returns-else-i-readers-clause-ok c = λ plans past h.
    sym (ap (λ xs. c.args.args.now.items ++ xs) (nothing_past plans past c.args.readers.now c.args.event.now h (omega (arith, c.from-i.ensures, c.get.ensures.value, c.get.ensures.range, c.if-i-readers.false)))
    ∙ append-nil c.args.args.now.items)

pub returns-else-i-readers-clause-after : goal.returns-else-i-readers-clause-after
returns-else-i-readers-clause-after c = λ plans past h.
    stand_past plans past c.args.readers.now c.args.event.now h (omega (arith, c.from-i.ensures, c.get.ensures.value, c.get.ensures.range, c.if-i-readers.false))
