use Rattle.window_snapshot.proofs.Parts.{has_first, none_before}
use Rattle.window_snapshot.proofs.mask.mask_first.Goals as goal

pub returns-clause-has : goal.returns-clause-has
returns-clause-has c = (has_first c.args.mask c.requires c.ranges.mask.fits).0

pub returns-clause-first : goal.returns-clause-first
returns-clause-first c = λ k e. none_before c.args.mask k c.requires c.ranges.mask.fits e
