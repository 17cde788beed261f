-- Bands: the points of a list of rectangles, row by row.
use Rattle.std.specs.Prelude.{Bool, ◌&&◌, ◌≡◌, ◌<◌, ◌≤◌, ℤ, ◌≤ℤ◌, ◌<ℤ◌, List, [], ◌∷◌, ◌++◌, length}
use Rattle.std.specs.List.{list_any, All}
use Rattle.touch_region.specs.declared.rectangle.Rect.{Rect}
use Rattle.touch_region.specs.declared.span.Span.{Span}
use Rattle.touch_region.specs.Between.{is_between}
use Rattle.touch_region.specs.Spans.{spans_hold, AreApart}
use Rattle.touch_region.specs.RectList.{region_holds}

-- the rows of pixels from `top` until `bottom`, in which the same spans belong to the region
pub record Row : Type 0 where
  pub top : ℤ
  pub bottom : ℤ
  pub spans : List Span

-- the point lies in a span of one of the bands
abbrev pub bands_hold : List Row → ℤ → ℤ → Bool
bands_hold rows x y = list_any (λ r. is_between r.top y r.bottom && spans_hold r.spans x) rows

-- the columns of a rectangle
abbrev pub columns_of : Rect → Span
columns_of rect = record { from = rect.left; until = rect.right }

-- the bands with one more below them, which is left out if it has no spans
abbrev pub with_band : ℤ → ℤ → List Span → List Row → List Row
with_band top bottom [] rows = rows
with_band top bottom (s ∷ ss) rows = rows ++ record { top = top; bottom = bottom; spans = s ∷ ss } ∷ []

-- the bands of a list of rectangles: at most 127, one below the other, with the points of the rectangles and no others
pub record AreBands (rects : List Rect) (rows : List Row) : Type 0 where
  pub few : length rows ≤ 127
  pub apart : AreApart (λ r. r.top) (λ r. r.bottom) rows
  pub same : (x y : ℤ) → bands_hold rows x y ≡ region_holds rects x y

-- two or more rectangles have bands beside them
abbrev pub HasBands : List Rect → List Row → Type 0
HasBands rects rows = 1 < length rects → AreBands rects rows

-- the bands above y = limit contain the points of the rectangles there, and no band reaches below it
pub record BandsAbove (limit : ℤ) (rects : List Rect) (rows : List Row) : Type 0 where
  pub apart : AreApart (λ r. r.top) (λ r. r.bottom) rows
  pub ended : All (λ r. r.bottom ≤ℤ limit) rows
  pub same : (x y : ℤ) → y <ℤ limit → bands_hold rows x y ≡ region_holds rects x y
