use Rattle.std.proofs.Common.{◌≡◌, ◌+◌, map, drop, length, [], None}
use Rattle.toml.specs.View.{view}
use Rattle.touch_region.specs.RectList.{first_bad}
use Rattle.session_plan.specs.Keys.{key_of}
use Rattle.session_plan.specs.Reading.{each}
use Rattle.session_plan.specs.Rectangles.{rect_of}
use Rattle.session_plan.proofs.rectangle.each_rect.Given as goal

-- the rectangles so far, and then those that are left, are all
abbrev pub invariant-loop-value : goal.invariant-loop-value
invariant-loop-value l = record {
  rest :
      each (λ k found d. rect_of (key_of l.place l.key) d) (l.value-index + 1) l.rects.items (map view (drop l.value-index l.values))
      ≡ each (λ k found d. rect_of (key_of l.place l.key) d) 1 [] (map view l.values);
  len : length l.rects.items ≡ l.value-index;
  ordered : first_bad l.rects.items ≡ None;
}
