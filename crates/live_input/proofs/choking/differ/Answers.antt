-- Masks with the same channels are one number.
use Rattle.std.proofs.Common.{◌==◌}
use Rattle.std.proofs.lemmas.Bool.{eqb-false, not-true}
use Rattle.window_snapshot.proofs.Masks.{same_mask}
use Rattle.live_input.proofs.choking.differ.Goals as goal

pub returns-clause-other : goal.returns-clause-other
returns-clause-other c = λ e same.
    eqb-false c.args.mask c.args.other (not-true (c.args.mask == c.args.other) e)
    (same_mask c.args.mask c.args.other c.ranges.mask.fits c.ranges.other.fits same)
