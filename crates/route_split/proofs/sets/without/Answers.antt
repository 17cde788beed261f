use Rattle.std.proofs.Common.{refl, arith}
use Rattle.bits32.specs.Set.{is_in}
use Rattle.touch_state.proofs.Sets.{without_none, without_more, without_all}
use Rattle.route_split.proofs.sets.without.Goals as goal

pub loop-id-init : goal.loop-id-init
loop-id-init c i = without_none i c.args.set (is_in i c.args.ids)

pub loop-id-preserved : goal.loop-id-preserved
loop-id-preserved c =
    without_more c.args.set c.args.ids c.loop-id.rest c.without_one-rest.result c.loop-id.id (is_in c.loop-id.id c.args.ids) refl c.loop-id.invariant
    c.without_one-rest.ensures

pub returns : goal.returns
returns c = without_all c.args.set c.args.ids c.loop-id.rest c.loop-id.id (omega (arith, c.well_formed)) c.loop-id-test.false c.loop-id.invariant
