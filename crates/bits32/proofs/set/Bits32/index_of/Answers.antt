use Rattle.std.proofs.Common.{◌<◌, arith}
use Rattle.bits32.proofs.Members.{ones_mask, in_below, members_at}
use Rattle.bits32.proofs.set.Bits32.index_of.Goals as goal

pub overflow_shl-result : goal.overflow_shl-result
overflow_shl-result c = in_below c.args.n c.args.self (omega arith) c.requires

pub returns-clause-smaller : goal.returns-clause-smaller
returns-clause-smaller c =
    rw c.self.view_is (ones_mask c.args.n c.args.self (in_below c.args.n c.args.self (omega arith) c.requires))

pub returns-clause-place : goal.returns-clause-place
returns-clause-place c =
    let low : c.args.n < 32 = in_below c.args.n c.args.self (omega arith) c.requires in
    rw (c.self.view_is, ones_mask c.args.n c.args.self low) (members_at 32 c.args.n c.args.self low c.requires)
