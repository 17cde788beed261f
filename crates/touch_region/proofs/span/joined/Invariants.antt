use Rattle.std.proofs.Common.{length}
use Rattle.touch_region.proofs.Joining.{Joined}
use Rattle.touch_region.proofs.span.joined.Given as goal

abbrev pub invariant-loop-rest : goal.invariant-loop-rest
invariant-loop-rest l = Joined l.spans l.joined.items l.last l.rest

abbrev pub decreases-loop-rest : goal.decreases-loop-rest
decreases-loop-rest l = length l.rest
