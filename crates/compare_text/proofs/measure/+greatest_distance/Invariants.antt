use Rattle.std.proofs.Common.{length}
use Rattle.compare_text.proofs.measure.+greatest_distance.Given as goal

abbrev pub decreases-greatest_distance : goal.decreases-greatest_distance
decreases-greatest_distance l = length l.a.now
