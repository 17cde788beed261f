use Rattle.device_reader.proofs.TouchMapper.Rising.{ends_item}
use Rattle.device_reader.proofs.touch_mapper.lists.joined.Goals as goal

pub append-requires-clause-rises : goal.append-requires-clause-rises
append-requires-clause-rises c =
    ends_item c.loop-p.pointers c.args.above.now c.loop-p.p-index c.p-item.result (rw c.loop-p.invariant c.requires.rises) c.loop-p-test.true c.p-item.is
