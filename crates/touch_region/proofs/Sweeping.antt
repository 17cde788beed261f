-- The sweep from edge to edge: how it begins, one step, and its end.
use Rattle.std.proofs.Common.{◌≡◌, ◌+◌, ◌<◌, ◌≤◌, List, [], ◌∷◌, length, false, refl, sym, ◌∙◌, arith}
use Rattle.std.specs.Prelude.{ℤ, ◌≤ℤ◌, ◌<ℤ◌}
use Rattle.std.proofs.lemmas.Int.{ints}
use Rattle.std.proofs.lemmas.List.Elements.{All-cons}
use Rattle.touch_region.specs.declared.rectangle.Rect.{Rect}
use Rattle.touch_region.specs.declared.span.Span.{Span}
use Rattle.touch_region.specs.Spans.{spans_hold, InOrder}
use Rattle.touch_region.specs.Bands.{Row, with_band, AreBands, BandsAbove}
use Rattle.touch_region.specs.RectList.{region_holds}
use Rattle.touch_region.specs.Edges.{is_lower, lower_edges, NextEdge}
use Rattle.touch_region.proofs.Rising.{order_head}
use Rattle.touch_region.proofs.Adding.{bands_begin, bands_step, bands_end, one_more}
use Rattle.touch_region.proofs.Next.{two_each}

-- at a row: the bands above it, and the rectangles that have all points from it on
pub record Swept (rects : List Rect) (top : ℤ) (rows : List Row) (rest : List Rect) : Type 0 where
  pub above : BandsAbove top rects rows
  pub order : InOrder (λ r. r.top) rest
  pub left : (x y : ℤ) → top ≤ℤ y → region_holds rest x y ≡ region_holds rects x y
  pub few : length rows + lower_edges top rest ≤ 127

pub swept_first : (rects : List Rect) (r : Rect) (rest : List Rect) → rects ≡ r ∷ rest → InOrder (λ q. q.top) rects → length rects ≤ 64 → Swept rects r.top [] rects
swept_first rects r rest is order few =
    let rising : InOrder (λ q. q.top) (r ∷ rest) = rw is at order in
    let fits : length (r ∷ rest) ≤ 64 = rw is at few in
    let own : is_lower r.top r.top ≡ 0 = grind (arith, ints) in
    let bottom : is_lower r.top r.bottom ≤ 1 = grind (arith, ints) in
    record {
      above = bands_begin rects r.top (rw is (All-cons (λ q. r.top ≤ℤ q.top) r rest (omega (arith, ints)) (order_head (λ q. q.top) r rest rising)));
      order = order;
      left = λ x y after. refl;
      few = rw is (omega (arith, two_each r.top rest));
    }

pub swept_more : (rects : List Rect) (top bottom : ℤ) (rows : List Row) (rest later : List Rect) (spans : List Span) → Swept rects top rows rest → NextEdge rest top bottom
    → ((x : ℤ) → spans_hold spans x ≡ region_holds rest x top) → InOrder (λ r. r.top) later → ((x y : ℤ) → bottom ≤ℤ y → region_holds later x y ≡ region_holds rest x y)
    → lower_edges bottom later ≤ lower_edges bottom rest → Swept rects bottom (with_band top bottom spans rows) later
swept_more rects top bottom rows rest later spans so next here order same fewer =
    let down : top <ℤ bottom = next.below in
    let less : lower_edges bottom rest < lower_edges top rest = next.fewer in
    let few : length rows + lower_edges top rest ≤ 127 = so.few in
    record {
      above = bands_step rows rects top bottom spans so.above down
          (λ x y after before. sym (so.left x y after) ∙ (next.same x y after before ∙ sym (here x)));
      order = order;
      left = λ x y after. same x y after ∙ so.left x y (omega (arith, ints));
      few = omega (arith, one_more top bottom spans rows);
    }

pub swept_all : (rects : List Rect) (top : ℤ) (rows : List Row) (rest : List Rect) → Swept rects top rows rest → ((x y : ℤ) → top ≤ℤ y → region_holds rest x y ≡ false) → AreBands rects rows
swept_all rects top rows rest so none = record {
  few = omega (arith, so.few);
  apart = so.above.apart;
  same = bands_end rects top rows so.above (λ x y after. sym (so.left x y after) ∙ none x y after);
}
