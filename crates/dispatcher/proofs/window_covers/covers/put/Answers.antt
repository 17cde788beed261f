use Rattle.std.proofs.Common.{arith}
use Rattle.dispatcher.proofs.WindowCovers.Masks.{mask-set}
use Rattle.dispatcher.proofs.window_covers.covers.put.Goals as goal

pub returns : goal.returns
returns c d =
    mask-set c.args.masks.now c.args.device c.index_of-place.result c.args.mask d (omega arith) c.index_of-place.ensures.device
    c.index_of-place.ensures.value
