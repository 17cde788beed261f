use Rattle.device_reader.proofs.TouchMapper.Rising.{placed_step}
use Rattle.device_reader.proofs.touch_mapper.lists.put_at_pixels.Goals as goal

pub append-requires-clause-rises : goal.append-requires-clause-rises
append-requires-clause-rises c =
    rw c.at_pixel.ensures
    (placed_step c.args.cook.now c.as_slice-h-items.result.now c.loop-h.h-index c.h-item.result c.loop-h.pointers c.as_slice-h-items.ensures.rises c.loop-h-test.true c.h-item.is
    (rw c.as_slice-h-items.ensures.value c.loop-h.invariant))
