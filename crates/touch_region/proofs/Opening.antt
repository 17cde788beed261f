-- The spans of a row, taken from rectangle after rectangle.
use Rattle.std.proofs.Common.{◌≡◌, ◌<◌, List, [], ◌∷◌, ◌++◌, length, Bool, true, false, ◌&&◌, ◌||◌, refl, sym, ◌∙◌, ap, arith, inl, inr, ◌⊎◌}
use Rattle.std.specs.Prelude.{ℤ, ◌≤ℤ◌, ◌<ℤ◌}
use Rattle.std.specs.List.{All}
use Rattle.std.proofs.lemmas.Bool.{and_left}
use Rattle.std.proofs.lemmas.Int.{ints, by_lt_z}
use Rattle.std.proofs.lemmas.List.{nil_from_length}
use Rattle.std.proofs.lemmas.List.Elements.{All-cons, All-weaker, All-push}
use Rattle.touch_region.specs.declared.rectangle.Rect.{Rect}
use Rattle.touch_region.specs.declared.span.Span.{Span}
use Rattle.touch_region.specs.Between.{is_between}
use Rattle.touch_region.specs.Rectangle.{rect_holds}
use Rattle.touch_region.specs.Spans.{spans_hold, InOrder}
use Rattle.touch_region.specs.Bands.{columns_of}
use Rattle.touch_region.specs.RectList.{region_holds}
use Rattle.touch_region.proofs.Rising.{is_between_since, order_head, order_tail}
use Rattle.touch_region.proofs.Points.{not_between, not_in_row, none_above}
use Rattle.touch_region.proofs.Joining.{one_and_more, with_last}

and_true : (a b : Bool) → b ≡ true → a ≡ (a && b)
and_true true b h = sym h
and_true false b h = refl

in_row : (r : Rect) (x y : ℤ) → r.top ≤ℤ y → y <ℤ r.bottom → is_between r.left x r.right ≡ rect_holds r x y
in_row r x y begun open' = and_true (is_between r.left x r.right) (is_between r.top y r.bottom) (is_between_since r.top y r.bottom begun open')

no_point : (r : Rect) (x y : ℤ) → (r.bottom ≤ℤ y) ⊎ (r.right ≤ℤ r.left) → rect_holds r x y ≡ false
no_point r x y empty =
    elim empty as (λ _. rect_holds r x y ≡ false) [
      | inl ended ↦ not_in_row r x y (inr ended)
      | inr narrow ↦ and_left (is_between r.left x r.right) (is_between r.top y r.bottom) (by_lt_z x r.left (λ h. not_between r.left x r.right (inl h)) (λ h. not_between r.left x r.right (inr (omega (arith, ints)))))
    ]

-- after some rectangles: the spans, and the rectangles that are left
pub record Opened (old : List Span) (rects : List Rect) (y : ℤ) (spans : List Span) (rest : List Rect) : Type 0 where
  pub wide : All (λ s. s.from <ℤ s.until) spans
  pub order : InOrder (λ r. r.top) rest
  pub same : (x : ℤ) → (spans_hold spans x || region_holds rest x y) ≡ (spans_hold old x || region_holds rects x y)

or_false : (a : Bool) → a ≡ (a || false)
or_false true = refl
or_false false = refl

pub opened_more : (old : List Span) (rects : List Rect) (y : ℤ) (spans : List Span) (left : List Rect) (r : Rect) (rest : List Rect) → left ≡ r ∷ rest → Opened old rects y spans left
    → r.top ≤ℤ y → y <ℤ r.bottom → r.left <ℤ r.right → Opened old rects y (spans ++ columns_of r ∷ []) rest
opened_more old rects y spans left r rest is so begun open' wide = record {
  wide = All-push (λ s. s.from <ℤ s.until) spans (columns_of r) so.wide wide;
  order = order_tail (λ q. q.top) r rest (rw is at so.order);
  same = λ x. ap (λ b. b || region_holds rest x y) (with_last spans (columns_of r) x)
      ∙ (one_and_more (spans_hold spans x) (is_between r.left x r.right) (region_holds rest x y)
      ∙ (ap (λ b. spans_hold spans x || (b || region_holds rest x y)) (in_row r x y begun open')
      ∙ (ap (λ rs. spans_hold spans x || region_holds rs x y) (sym is) ∙ so.same x)));
}

-- a rectangle that has no points in the row adds none
pub opened_kept : (old : List Span) (rects : List Rect) (y : ℤ) (spans : List Span) (left : List Rect) (r : Rect) (rest : List Rect) → left ≡ r ∷ rest → Opened old rects y spans left
    → (r.bottom ≤ℤ y) ⊎ (r.right ≤ℤ r.left) → Opened old rects y spans rest
opened_kept old rects y spans left r rest is so empty = record {
  wide = so.wide;
  order = order_tail (λ q. q.top) r rest (rw is at so.order);
  same = λ x. ap (λ b. spans_hold spans x || (b || region_holds rest x y)) (sym (no_point r x y empty))
      ∙ (ap (λ rs. spans_hold spans x || region_holds rs x y) (sym is) ∙ so.same x);
}

-- where a rectangle begins below the row, so do all after it
pub opened_before : (old : List Span) (rects : List Rect) (y : ℤ) (spans : List Span) (left : List Rect) (r : Rect) (rest : List Rect) → left ≡ r ∷ rest → Opened old rects y spans left
    → y <ℤ r.top → (x : ℤ) → spans_hold spans x ≡ (spans_hold old x || region_holds rects x y)
opened_before old rects y spans left r rest is so lower x =
    let order : InOrder (λ q. q.top) (r ∷ rest) = rw is at so.order in
    let none : region_holds (r ∷ rest) x y ≡ false =
    none_above (r ∷ rest) x y (All-cons (λ q. y <ℤ q.top) r rest lower (All-weaker (λ q. r.top ≤ℤ q.top) (λ q. y <ℤ q.top) (λ q h. omega (arith, ints)) rest (order_head (λ q. q.top) r rest order))) in
    or_false (spans_hold spans x) ∙ (ap (λ b. spans_hold spans x || b) (sym (ap (λ rs. region_holds rs x y) is ∙ none)) ∙ so.same x)

pub opened_all : (old : List Span) (rects : List Rect) (y : ℤ) (spans : List Span) (rest : List Rect) → length rest < 1 → Opened old rects y spans rest
    → (x : ℤ) → spans_hold spans x ≡ (spans_hold old x || region_holds rects x y)
opened_all old rects y spans rest none so x =
    let empty : rest ≡ [] = nil_from_length rest (omega arith) in
    or_false (spans_hold spans x) ∙ (ap (λ rs. spans_hold spans x || region_holds rs x y) (sym empty) ∙ so.same x)
