-- Which lists of rectangles are regions, and why the others are not.
use Rattle.std.specs.Prelude.{◌≡◌, ℕ, nat_lt, List, length, Option, Some, None, Result, Ok, Err, if◌then◌else◌}
use Rattle.touch_region.specs.declared.rectangle.Rect.{Rect}
use Rattle.touch_region.specs.declared.region.RegionError.{RegionError}
use Rattle.touch_region.specs.declared.region.RegionError.TheVariants.{TooMany, BadRect, Memory}
use Rattle.touch_region.specs.RectList.{first_bad}

-- the list itself, unless a rectangle of it is bad
abbrev pub region_unless : List Rect → Option ℕ → Result (List Rect) RegionError
region_unless rects None = Ok rects
region_unless rects (Some i) = Err (BadRect i)

-- the region of these rectangles: more than 64 are refused, and otherwise the first bad one is reported
abbrev pub region_of : List Rect → Result (List Rect) RegionError
region_of rects = if nat_lt 64 (length rects) then Err TooMany else region_unless rects (first_bad rects)

-- the result of a call, unless memory ran out
abbrev pub Gives : Result (List Rect) RegionError → Result (List Rect) RegionError → Type 0
Gives (Err Memory) due = Unit {0}
Gives answer due = answer ≡ due
