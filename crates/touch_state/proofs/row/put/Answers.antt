use Rattle.std.proofs.Common.{arith}
use Rattle.touch_state.proofs.Passes.{row_of-set}
use Rattle.touch_state.proofs.row.put.Goals as goal

pub returns : goal.returns
returns c = row_of-set c.args.rows.now c.args.channel c.args.row (omega arith) c.requires
