-- Bands from edge to edge: how they begin, what one step adds, and what they are when no edge is left.
use Rattle.std.proofs.Common.{◌≡◌, ◌+◌, ◌<◌, ◌≤◌, List, [], ◌∷◌, ◌++◌, length, true, false, ◌&&◌, refl, sym, ◌∙◌, ap, arith, inl, length-append}
use Rattle.std.specs.Prelude.{ℤ, ◌≤ℤ◌, ◌<ℤ◌}
use Rattle.std.specs.List.{All}
use Rattle.std.specs.List.Sorted.{IsPermutation}
use Rattle.std.proofs.lemmas.Bool.{and_parts, and_left}
use Rattle.std.proofs.lemmas.Int.{ints, by_lt_z}
use Rattle.std.proofs.lemmas.List.Elements.{All-nil, All-weaker}
use Rattle.std.proofs.lemmas.List.Sorted.{list_any-IsPermutation}
use Rattle.touch_region.specs.declared.rectangle.Rect.{Rect}
use Rattle.touch_region.specs.declared.span.Span.{Span}
use Rattle.touch_region.specs.Between.{is_between}
use Rattle.touch_region.specs.Rectangle.{rect_holds}
use Rattle.touch_region.specs.Spans.{spans_hold}
use Rattle.touch_region.specs.Bands.{Row, bands_hold, with_band, AreBands, BandsAbove}
use Rattle.touch_region.specs.RectList.{region_holds}
use Rattle.touch_region.proofs.Rising.{none_apart, between_until, is_between_since, still, and_one, past, apart_and_one, ended_and_one}
use Rattle.touch_region.proofs.Points.{not_between, none_above}

-- a band's points lie above where it ends
band_ends : (x : ℤ) (r : Row) (y : ℤ) → (is_between r.top y r.bottom && spans_hold r.spans x) ≡ true → y <ℤ r.bottom
band_ends x r y h = between_until r.top y r.bottom (and_parts _ _ h).0

pub bands_of_none : AreBands [] []
bands_of_none = record { few = omega arith; apart = none_apart (λ r. r.top) (λ r. r.bottom); same = λ x y. refl }

-- no band is needed above the first top edge
pub bands_begin : (rects : List Rect) (top : ℤ) → All (λ r. top ≤ℤ r.top) rects → BandsAbove top rects []
bands_begin rects top first = record {
  apart = none_apart (λ r. r.top) (λ r. r.bottom);
  ended = All-nil (λ r. r.bottom ≤ℤ top);
  same = λ x y over. sym (none_above rects x y (All-weaker (λ r. top ≤ℤ r.top) (λ r. y <ℤ r.top) (λ r h. omega (arith, ints)) rects first));
}

-- where no row has a point from the limit on, the bands are complete
pub bands_end : (rects : List Rect) (top : ℤ) (rows : List Row) → BandsAbove top rects rows → ((x y : ℤ) → top ≤ℤ y → region_holds rects x y ≡ false)
    → (x y : ℤ) → bands_hold rows x y ≡ region_holds rects x y
bands_end rects top rows over none x y =
    by_lt_z y top (over.same x y)
    (λ behind.
    past (λ r. r.bottom) (λ r z. is_between r.top z r.bottom && spans_hold r.spans x) (band_ends x) top rows over.ended y behind
    ∙ sym (none x y behind))

bands_kept : (rows : List Row) (rects : List Rect) (top bottom : ℤ) → BandsAbove top rects rows → top <ℤ bottom
    → ((x y : ℤ) → top ≤ℤ y → y <ℤ bottom → region_holds rects x y ≡ false) → BandsAbove bottom rects rows
bands_kept rows rects top bottom over order none = record {
  apart = over.apart;
  ended = All-weaker (λ r. r.bottom ≤ℤ top) (λ r. r.bottom ≤ℤ bottom) (λ r h. omega (arith, ints)) rows over.ended;
  same = λ x. still (λ r. r.bottom) (λ r z. is_between r.top z r.bottom && spans_hold r.spans x) (λ y. region_holds rects x y) top bottom rows (band_ends x) over.ended (over.same x)
      (λ y after before. none x y after before);
}

bands_more : (rows : List Row) (rects : List Rect) (top bottom : ℤ) (spans : List Span) → BandsAbove top rects rows → top <ℤ bottom
    → ((x y : ℤ) → top ≤ℤ y → y <ℤ bottom → region_holds rects x y ≡ spans_hold spans x) → BandsAbove bottom rects (rows ++ record { top = top; bottom = bottom; spans = spans } ∷ [])
bands_more rows rects top bottom spans over order here =
    let r : Row = record { top = top; bottom = bottom; spans = spans } in
    record {
      apart = apart_and_one (λ q. q.top) (λ q. q.bottom) top rows r over.apart over.ended (omega (arith, ints)) order;
      ended = ended_and_one (λ q. q.bottom) top bottom rows r over.ended (omega (arith, ints)) (omega (arith, ints));
      same = λ x. and_one (λ q. q.bottom) (λ q z. is_between q.top z q.bottom && spans_hold q.spans x) (λ y. region_holds rects x y) top bottom rows (band_ends x) over.ended (over.same x) r
          (λ y before. and_left (is_between top y bottom) (spans_hold spans x) (not_between top y bottom (inl before)))
          (λ y after before. ap (λ b. b && spans_hold spans x) (is_between_since top y bottom after before) ∙ sym (here x y after before));
    }

-- from one edge to the next, the spans of one row are those of all
pub bands_step : (rows : List Row) (rects : List Rect) (top bottom : ℤ) (spans : List Span) → BandsAbove top rects rows → top <ℤ bottom
    → ((x y : ℤ) → top ≤ℤ y → y <ℤ bottom → region_holds rects x y ≡ spans_hold spans x) → BandsAbove bottom rects (with_band top bottom spans rows)
bands_step rows rects top bottom [] over order here = bands_kept rows rects top bottom over order here
bands_step rows rects top bottom (s ∷ ss) over order here = bands_more rows rects top bottom (s ∷ ss) over order here

pub one_more : (top bottom : ℤ) (spans : List Span) (rows : List Row) → length (with_band top bottom spans rows) ≤ length rows + 1
one_more top bottom [] rows = omega arith
one_more top bottom (s ∷ ss) rows = simp length-append (omega arith)

-- the order of the rectangles makes no difference
pub bands_in_any_order : (rects sorted : List Rect) (rows : List Row) → IsPermutation rects sorted → AreBands sorted rows → AreBands rects rows
bands_in_any_order rects sorted rows moved bands = record {
  few = bands.few;
  apart = bands.apart;
  same = λ x y. bands.same x y ∙ sym (list_any-IsPermutation (λ r. rect_holds r x y) rects sorted moved);
}

-- a band that is not left out
pub with_some : (top bottom : ℤ) (spans : List Span) (rows : List Row) → 1 ≤ length spans → rows ++ record { top = top; bottom = bottom; spans = spans } ∷ [] ≡ with_band top bottom spans rows
with_some top bottom [] rows some = absurd (omega arith)
with_some top bottom (s ∷ ss) rows some = refl

pub with_none : (top bottom : ℤ) (spans : List Span) (rows : List Row) → length spans < 1 → rows ≡ with_band top bottom spans rows
with_none top bottom [] rows none = refl
with_none top bottom (s ∷ ss) rows none = absurd (omega arith)
