use Rattle.std.proofs.Common.{◌≡◌, length}
use Rattle.std.specs.Prelude.{None}
use Rattle.touch_region.proofs.Next.{next_from}
use Rattle.touch_region.proofs.sweep.next_edge.Given as goal

abbrev pub invariant-loop-rest : goal.invariant-loop-rest
invariant-loop-rest l = next_from l.next l.y l.rest ≡ next_from None l.y l.rects

abbrev pub decreases-loop-rest : goal.decreases-loop-rest
decreases-loop-rest l = length l.rest
