use Rattle.device_reader.proofs.TouchMapper.Rising.{moved_step}
use Rattle.device_reader.proofs.touch_mapper.lists.all_moved.Goals as goal

pub append-requires-clause-rises : goal.append-requires-clause-rises
append-requires-clause-rises c =
    rw (c.moved.ensures, c.as_slice.ensures.value)
    (moved_step c.args.now.now c.in_use-p-items.result.now c.loop-p.p-index c.p-item.result c.loop-p.pointers c.in_use-p-items.ensures.rises c.loop-p-test.true c.p-item.is
    (rw c.in_use-p-items.ensures.value c.loop-p.invariant))
