use Rattle.std.proofs.Common.{length}
use Rattle.touch_region.proofs.Opening.{Opened}
use Rattle.touch_region.proofs.sweep.add_spans.Given as goal

abbrev pub invariant-loop-rest : goal.invariant-loop-rest
invariant-loop-rest l = Opened l.initial.spans.items l.rects l.y l.spans.items l.rest

abbrev pub decreases-loop-rest : goal.decreases-loop-rest
decreases-loop-rest l = length l.rest
