use Rattle.std.proofs.Common.{◌<◌, ap, subst, length, arith}
use Rattle.input_types.specs.Pointers.{IsRising}
use Rattle.dispatcher.proofs.InputChannel.Moving.{ends_counted}
use Rattle.dispatcher.proofs.input_channel.moves.list_from.Goals as goal

pub put-requires-clause-rises : goal.put-requires-clause-rises
put-requires-clause-rises c =
    let lt : c.loop-pointer.pointer-index < length c.args.pointers.now =
    omega (arith, c.loop-pointer-test.true, ap length c.as_slice-pointer-items.ensures.value) in
    rw c.loop-pointer.invariant
    (ends_counted c.args.origin c.args.pointers.now c.loop-pointer.pointer-index c.pointer-item.result (subst IsRising c.as_slice-pointer-items.ensures.value c.as_slice-pointer-items.ensures.rises)
    lt
    (rw c.as_slice-pointer-items.ensures.value at c.pointer-item.is))
