-- Lists of rectangles as regions.
use Rattle.std.specs.Prelude.{Bool, not, ◌≡◌, ◌≤◌, ℕ, ℤ, List, length, Option, None}
use Rattle.std.specs.List.{list_any, position}
use Rattle.touch_region.specs.declared.rectangle.Rect.{Rect}
use Rattle.touch_region.specs.Rectangle.{rect_holds, is_ordered}

-- the point lies in one of the rectangles: a region is their union
abbrev pub region_holds : List Rect → ℤ → ℤ → Bool
region_holds rects x y = list_any (λ rect. rect_holds rect x y) rects

-- the index, from 0, of the first rectangle whose edges are not in order
abbrev pub first_bad : List Rect → Option ℕ
first_bad rects = position (λ rect. not (is_ordered rect)) rects

-- at most 64 rectangles, each with its edges in order
pub record IsRegion (rects : List Rect) : Type 0 where
  pub few : length rects ≤ 64
  pub ordered : first_bad rects ≡ None
