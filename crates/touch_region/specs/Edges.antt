-- The top and bottom edges of rectangles below a row.
use Rattle.std.specs.Prelude.{◌≡◌, ℕ, ◌+◌, ◌<◌, ℤ, ◌≤ℤ◌, ◌<ℤ◌, false, List, [], ◌∷◌, Option, Some, None, if◌then◌else◌}
use Rattle.std.specs.Int.RustNames.{int_lt}
use Rattle.touch_region.specs.declared.rectangle.Rect.{Rect}
use Rattle.touch_region.specs.RectList.{region_holds}

-- 1 for an edge below row y, and 0 for another one
abbrev pub is_lower : ℤ → ℤ → ℕ
is_lower y edge = if int_lt y edge then 1 else 0

-- how many top and bottom edges lie below row y
abbrev pub lower_edges : ℤ → List Rect → ℕ
lower_edges y [] = 0
lower_edges y (r ∷ rs) = is_lower y r.top + (is_lower y r.bottom + lower_edges y rs)

-- the nearer one of two edges below a row
abbrev pub nearer : Option ℤ → ℤ → ℤ
nearer None edge = edge
nearer (Some next) edge = if int_lt next edge then next else edge

-- from row y down to the edge all rows have the same points, and fewer edges lie below the edge than below y
pub record NextEdge (rects : List Rect) (y edge : ℤ) : Type 0 where
  pub below : y <ℤ edge
  pub same : (x z : ℤ) → y ≤ℤ z → z <ℤ edge → region_holds rects x z ≡ region_holds rects x y
  pub fewer : lower_edges edge rects < lower_edges y rects

-- the edge is the next one below row y, or no row from y on has a point
abbrev pub IsNextEdge : List Rect → ℤ → Option ℤ → Type 0
IsNextEdge rects y (Some edge) = NextEdge rects y edge
IsNextEdge rects y None = (x z : ℤ) → y ≤ℤ z → region_holds rects x z ≡ false
