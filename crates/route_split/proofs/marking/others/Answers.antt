use Rattle.std.proofs.Common.{arith}
use Rattle.route_split.proofs.MaskSets.{mask_has-not}
use Rattle.route_split.proofs.marking.others.Goals as goal

pub returns : goal.returns
returns c w = mask_has-not c.args.windows w (omega arith)
