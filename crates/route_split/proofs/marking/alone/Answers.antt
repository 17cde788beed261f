use Rattle.route_split.proofs.MaskSets.{mask_has-alone}
use Rattle.route_split.proofs.marking.alone.Goals as goal

pub returns : goal.returns
returns c w = mask_has-alone c.mask_with.result c.args.window w c.mask_with.ensures
