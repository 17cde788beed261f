use Rattle.std.proofs.Common.{arith}
use Rattle.pilfer_monitor.proofs.Tables.{common_all}
use Rattle.pilfer_monitor.proofs.monitor.common.Goals as goal

pub returns : goal.returns
returns c = common_all c.args.a c.args.b c.loop-id.both c.loop-id.id (omega (arith, c.well_formed)) c.loop-id-test.false c.loop-id.invariant
