use Rattle.touch_state.proofs.Tops.{top_above}
use Rattle.touch_state.proofs.row.top_of.Goals as goal

pub returns-clause-above : goal.returns-clause-above
returns-clause-above c w lt = top_above c.args.mask w c.ranges.mask.fits lt
