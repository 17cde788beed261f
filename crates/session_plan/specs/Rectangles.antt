-- Rectangles, and where a window can be touched.
use Rattle.std.specs.Prelude.{ℕ, ℤ, int_le, codes, ◌&&◌, if◌then◌else◌, List, [], ◌∷◌, Option, Some, None, is_some, Result, Ok}
use Rattle.std.specs.List.{list_all}
use Rattle.toml.specs.Data.{Data, get, as_integer}
use Rattle.touch_region.specs.declared.rectangle.Rect.{Rect}
use Rattle.session_plan.specs.declared.key.Place.{Place}
use Rattle.session_plan.specs.declared.rectangle.Corners.{Corners}
use Rattle.session_plan.specs.Fault.{Fault, ◌>>=◌}
use Rattle.session_plan.specs.Keys.{key_of}
use Rattle.session_plan.specs.Reading.{of_kind, needs, or_default, as_list, coordinate, at_most, each}

-- the edges of a rectangle where all are integers, left is at most right, and top at most bottom
abbrev pub from_edges : Option ℤ → Option ℤ → Option ℤ → Option ℤ → Option Corners
from_edges (Some left) (Some top) (Some right) (Some bottom) =
    if int_le left right && int_le top bottom then Some (record { left = left; top = top; right = right; bottom = bottom }) else None
from_edges _ _ _ _ = None

-- four integers: left, top, right, bottom
abbrev pub corners_of : List Data → Option Corners
corners_of (a ∷ b ∷ c ∷ d ∷ []) = from_edges (as_integer a) (as_integer b) (as_integer c) (as_integer d)
corners_of _ = None

-- the edges of a rectangle, where a value is an array
abbrev pub corners_in : Option (List Data) → Option Corners
corners_in None = None
corners_in (Some ds) = corners_of ds

-- a value as a rectangle, whose numbers may still be too great
unfoldable pub rectangle : Data → Option Corners
rectangle d = corners_in (as_list d)

-- the rectangle in display pixels
unfoldable pub rect_of : List ℕ → Data → Result Rect Fault
rect_of key d = do
  c ← of_kind key (rectangle d)
  left ← coordinate key c.left
  top ← coordinate key c.top
  right ← coordinate key c.right
  bottom ← coordinate key c.bottom
  Ok (record { left = left; top = top; right = right; bottom = bottom })

-- an array of rectangles
unfoldable pub rects_of : List ℕ → Data → Result (List Rect) Fault
rects_of key d = do
  ds ← of_kind key (as_list d)
  formed ← needs key (list_all (λ e. is_some (rectangle e)) ds)
  few ← at_most key 64 ds
  each (λ k found e. rect_of key e) 1 [] ds

-- where a window can be touched: the rectangles at its key, or its frame alone
unfoldable pub region_at : Place → Rect → Data → Result (List Rect) Fault
region_at place frame d = or_default (frame ∷ []) (get (codes "region") d) (rects_of (key_of place (codes "region")))
