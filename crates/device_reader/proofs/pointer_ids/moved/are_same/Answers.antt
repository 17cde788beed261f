-- Lists of other lengths differ.
use Rattle.std.proofs.Common.{arith}
use Rattle.device_reader.proofs.PointerIds.Following.{other_length}
use Rattle.device_reader.proofs.pointer_ids.moved.are_same.Goals as goal

pub returns-then-before-now : goal.returns-then-before-now
returns-then-before-now c = other_length c.args.before.now c.args.now.now (omega (arith, c.if-before-now.true))
