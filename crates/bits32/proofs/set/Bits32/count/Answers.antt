use Rattle.std.proofs.Common.{arith}
use Rattle.bits32.proofs.Members.{ones_all}
use Rattle.bits32.proofs.set.Bits32.count.Goals as goal

pub returns : goal.returns
returns c = rw c.self.view_is (ones_all c.args.self (omega arith))
