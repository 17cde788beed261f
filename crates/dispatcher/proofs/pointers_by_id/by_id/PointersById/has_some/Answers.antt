use Rattle.std.proofs.Common.{◌^◌, ◌<◌, arith}
use Rattle.dispatcher.proofs.PointersById.ById.{some_of}
use Rattle.dispatcher.proofs.pointers_by_id.by_id.PointersById.has_some.Goals as goal

pub returns : goal.returns
returns c =
    let fits : c.self.inside.ids < 2 ^ 32 = omega arith in
    rw (c.bits.ensures, c.bits-2.ensures, ← c.self.view_is)
    (some_of c.self.inside.ids c.args.set c.self.inside.pointers.now fits c.self.invariant)
