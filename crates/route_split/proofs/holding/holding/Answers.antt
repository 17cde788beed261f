use Rattle.std.proofs.Common.{arith}
use Rattle.route_split.proofs.Passed.{passed_all, passed_more, passed_none}
use Rattle.route_split.proofs.holding.holding.Goals as goal

pub loop-k-init : goal.loop-k-init
loop-k-init c = passed_none c.args.table.now c.args.id

pub loop-k-preserved : goal.loop-k-preserved
loop-k-preserved c =
    passed_more c.args.table.now c.args.id c.loop-k.k c.loop-k.mask c.with_one-mask.result c.holds_pointer.result c.loop-k.invariant c.with_one-mask.ensures c.holds_pointer.ensures

pub returns : goal.returns
returns c = passed_all c.args.table.now c.args.id c.loop-k.mask c.loop-k.k (omega (arith, c.loop-k-test.false)) c.loop-k.invariant
