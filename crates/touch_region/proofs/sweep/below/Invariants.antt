use Rattle.std.proofs.Common.{◌≡◌, ◌≤◌, length}
use Rattle.std.specs.Prelude.{ℤ, ◌≤ℤ◌}
use Rattle.touch_region.specs.Spans.{InOrder}
use Rattle.touch_region.specs.RectList.{region_holds}
use Rattle.touch_region.specs.Edges.{lower_edges}
use Rattle.touch_region.proofs.sweep.below.Given as goal

abbrev pub invariant-loop-rest : goal.invariant-loop-rest
invariant-loop-rest l = record {
  order : InOrder (λ r. r.top) l.rest;
  same : (x z : ℤ) → l.y ≤ℤ z → region_holds l.rest x z ≡ region_holds l.rects x z;
  fewer : lower_edges l.y l.rest ≤ lower_edges l.y l.rects;
}

abbrev pub decreases-loop-rest : goal.decreases-loop-rest
decreases-loop-rest l = length l.rest
