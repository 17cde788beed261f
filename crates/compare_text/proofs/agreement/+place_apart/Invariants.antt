use Rattle.std.proofs.Common.{length}
use Rattle.compare_text.proofs.agreement.+place_apart.Given as goal

abbrev pub decreases-place_apart : goal.decreases-place_apart
decreases-place_apart l = length l.want.now
