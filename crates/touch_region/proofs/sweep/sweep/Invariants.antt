use Rattle.touch_region.specs.Edges.{lower_edges}
use Rattle.touch_region.proofs.Sweeping.{Swept}
use Rattle.touch_region.proofs.sweep.sweep.Given as goal

abbrev pub invariant-rows : goal.invariant-rows
invariant-rows l = Swept l.rects l.top l.bands.items l.rest

abbrev pub decreases-rows : goal.decreases-rows
decreases-rows l = lower_edges l.top l.rest
