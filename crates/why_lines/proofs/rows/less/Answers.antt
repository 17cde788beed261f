use Rattle.std.proofs.Common.{sym, arith}
use Rattle.bits32.specs.Set.{is_in}
use Rattle.touch_state.proofs.Sets.{without_all, without_more, without_none}
use Rattle.why_lines.proofs.rows.less.Goals as goal

pub loop-id-init : goal.loop-id-init
loop-id-init c i = without_none i c.args.set (is_in i c.args.other)

pub loop-id-preserved : goal.loop-id-preserved
loop-id-preserved c =
    without_more c.args.set c.args.other c.loop-id.rest c.less_one-rest.result c.loop-id.id c.has.result (sym c.has.ensures) c.loop-id.invariant
    c.less_one-rest.ensures

pub returns : goal.returns
returns c = without_all c.args.set c.args.other c.loop-id.rest c.loop-id.id (omega (arith, c.well_formed)) c.loop-id-test.false c.loop-id.invariant
