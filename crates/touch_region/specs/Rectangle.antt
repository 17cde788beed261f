-- Which points a rectangle contains, and which rectangles have their edges in order.
use Rattle.std.specs.Prelude.{Bool, ◌&&◌, ℤ}
use Rattle.std.specs.Int.RustNames.{int_le}
use Rattle.touch_region.specs.declared.rectangle.Rect.{Rect}
use Rattle.touch_region.specs.Between.{is_between}

-- the point lies between the left and the right edge and between the top and the bottom one, where the left and top edges
-- are part of the rectangle and the right and bottom ones are not
abbrev pub rect_holds : Rect → ℤ → ℤ → Bool
rect_holds rect x y = is_between rect.left x rect.right && is_between rect.top y rect.bottom

-- the left edge is not right of the right one, and the top edge is not below the bottom one
abbrev pub is_ordered : Rect → Bool
is_ordered rect = int_le rect.left rect.right && int_le rect.top rect.bottom
