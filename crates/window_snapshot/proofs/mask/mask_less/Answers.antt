use Rattle.window_snapshot.proofs.Parts.{mask_has-less}
use Rattle.window_snapshot.proofs.mask.mask_less.Goals as goal

pub returns-clause-channels : goal.returns-clause-channels
returns-clause-channels c = λ k. mask_has-less c.args.mask c.args.other k c.ranges.other.fits
