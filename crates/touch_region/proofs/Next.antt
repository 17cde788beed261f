-- The next edge below a row: found rectangle by rectangle, in the order of their top edges.
use Rattle.std.proofs.Common.{◌≡◌, ◌+◌, ◌<◌, ◌≤◌, List, [], ◌∷◌, length, cond, false, ◌||◌, refl, sym, ◌∙◌, ap, arith, inl, inr, ◌⊎◌}
use Rattle.std.specs.Prelude.{ℤ, ◌≤ℤ◌, ◌<ℤ◌, int_lt, Option, Some, None, IfSome}
use Rattle.std.specs.List.{All}
use Rattle.std.proofs.lemmas.Bool.{cond_both, cond-true}
use Rattle.std.proofs.lemmas.Int.{ints}
use Rattle.std.proofs.lemmas.List.{nil_from_length}
use Rattle.std.proofs.lemmas.List.Elements.{All-cons, All-weaker}
use Rattle.touch_region.specs.declared.rectangle.Rect.{Rect}
use Rattle.touch_region.specs.Rectangle.{rect_holds}
use Rattle.touch_region.specs.Spans.{InOrder}
use Rattle.touch_region.specs.RectList.{region_holds}
use Rattle.touch_region.specs.Edges.{is_lower, lower_edges, nearer, IsNextEdge}
use Rattle.touch_region.proofs.Rising.{lt_true, lt_false, true_lt, order_head, order_tail}
use Rattle.touch_region.proofs.Points.{not_in_row, same_in_rows, none_above}

is_lower_falls : (y z edge : ℤ) → y ≤ℤ z → is_lower z edge ≤ is_lower y edge
is_lower_falls y z edge order = grind (arith, ints)

is_lower_at : (y edge : ℤ) → y <ℤ edge → is_lower edge edge < is_lower y edge
is_lower_at y edge order = grind (arith, ints)

pub lower_edges_fall : (y z : ℤ) (rects : List Rect) → y ≤ℤ z → lower_edges z rects ≤ lower_edges y rects
lower_edges_fall y z [] order = omega arith
lower_edges_fall y z (r ∷ rs) order = omega (arith, is_lower_falls y z r.top order, is_lower_falls y z r.bottom order, lower_edges_fall y z rs order)

-- at most two edges each
pub two_each : (y : ℤ) (rects : List Rect) → lower_edges y rects ≤ length rects + length rects
two_each y [] = omega arith
two_each y (r ∷ rs) = let a : is_lower y r.top ≤ 1 = grind (arith, ints) in let b : is_lower y r.bottom ≤ 1 = grind (arith, ints) in omega (arith, two_each y rs)

-- what is known of the nearer edge n
record Nearer (next : Option ℤ) (y edge n : ℤ) : Type 0 where
  below : y <ℤ n
  first : n ≤ℤ edge
  second : IfSome next (λ old. n ≤ℤ old)
  one : (next ≡ Some n) ⊎ (edge ≡ n)

nearer_is : (next : Option ℤ) (y edge : ℤ) → IfSome next (λ old. y <ℤ old) → y <ℤ edge → Nearer next y edge (nearer next edge)
nearer_is None y edge before below = record { below = below; first = omega (arith, ints); second = tt; one = inr refl }
nearer_is (Some old) y edge before below =
    cond_both (int_lt old edge) old edge (Nearer (Some old) y edge)
    (λ h. let k : old <ℤ edge = lt_true old edge h in record { below = before; first = omega (arith, ints); second = omega (arith, ints); one = inl refl })
    (λ h. let k : edge ≤ℤ old = lt_false old edge h in record { below = below; first = omega (arith, ints); second = k; one = inr refl })

-- the next edge among these rectangles and one that is known already
abbrev pub next_from : Option ℤ → ℤ → List Rect → Option ℤ
next_from next y [] = next
next_from next y (r ∷ rs) =
    cond (int_lt y r.top) (Some (nearer next r.top)) (next_from (cond (int_lt y r.bottom) (Some (nearer next r.bottom)) next) y rs)

record Found (next : Option ℤ) (y : ℤ) (rects : List Rect) (edge : ℤ) : Type 0 where
  below : y <ℤ edge
  nearest : IfSome next (λ old. edge ≤ℤ old)
  same : (x z : ℤ) → y ≤ℤ z → z <ℤ edge → region_holds rects x z ≡ region_holds rects x y
  fewer : (next ≡ Some edge) ⊎ (lower_edges edge rects < lower_edges y rects)

record Empty (next : Option ℤ) (y : ℤ) (rects : List Rect) : Type 0 where
  none : next ≡ None
  same : (x z : ℤ) → y ≤ℤ z → region_holds rects x z ≡ false

abbrev Finds : Option ℤ → ℤ → List Rect → Option ℤ → Type 0
Finds next y rects (Some edge) = Found next y rects edge
Finds next y rects None = Empty next y rects

nothing_left : (next : Option ℤ) (y : ℤ) → IfSome next (λ old. y <ℤ old) → Finds next y [] next
nothing_left None y before = record { none = refl; same = λ x z after. refl }
nothing_left (Some old) y before = record { below = before; nearest = omega (arith, ints); same = λ x z after within. refl; fewer = inl refl }

-- a rectangle that begins below row y ends the search
stops : (next : Option ℤ) (y : ℤ) (r : Rect) (rs : List Rect) (n : ℤ) → InOrder (λ q. q.top) (r ∷ rs) → Nearer next y r.top n → Found next y (r ∷ rs) n
stops next y r rs n order near =
    let tops : All (λ q. n ≤ℤ q.top) (r ∷ rs) = All-cons (λ q. n ≤ℤ q.top) r rs near.first
    (All-weaker (λ q. r.top ≤ℤ q.top) (λ q. n ≤ℤ q.top) (λ q h. let a : n ≤ℤ r.top = near.first in omega (arith, ints)) rs (order_head (λ q. q.top) r rs order)) in
    let none : (x z : ℤ) → z <ℤ n → region_holds (r ∷ rs) x z ≡ false = λ x z h. none_above (r ∷ rs) x z (All-weaker (λ q. n ≤ℤ q.top) (λ q. z <ℤ q.top) (λ q k. omega (arith, ints)) (r ∷ rs) tops) in
    let down : y <ℤ n = near.below in
    record {
      below = down;
      nearest = near.second;
      same = λ x z after within. none x z within ∙ sym (none x y down);
      fewer = elim near.one as (λ _. (next ≡ Some n) ⊎ (lower_edges n (r ∷ rs) < lower_edges y (r ∷ rs))) [
        | inl old ↦ inl old
        | inr at ↦
            let here : is_lower n r.top < is_lower y r.top = rw at (is_lower_at y n down) in
            inr (omega (arith, is_lower_falls y n r.bottom (omega (arith, ints)), lower_edges_fall y n rs (omega (arith, ints))))
      ];
    }

sooner : (next : Option ℤ) (n edge : ℤ) → edge ≤ℤ n → IfSome next (λ old. n ≤ℤ old) → IfSome next (λ old. edge ≤ℤ old)
sooner None n edge order h = tt
sooner (Some old) n edge order h = omega (arith, ints)

-- one that has points in row y goes down at least to the edge that is found
keeps : (next : Option ℤ) (y : ℤ) (r : Rect) (rs : List Rect) (n : ℤ) (o : Option ℤ) → r.top ≤ℤ y → Nearer next y r.bottom n → Finds (Some n) y rs o → Finds next y (r ∷ rs) o
keeps next y r rs n None begun near found = cc (found.none)
keeps next y r rs n (Some edge) begun near found =
    let a : edge ≤ℤ n = found.nearest in
    let b : n ≤ℤ r.bottom = near.first in
    let down : y <ℤ edge = found.below in
    record {
      below = down;
      nearest = sooner next n edge a near.second;
      same = λ x z after within. ap (λ t. t || region_holds rs x z) (same_in_rows r x y z begun after (omega (arith, ints))) ∙ ap (λ t. rect_holds r x y || t) (found.same x z after within);
      fewer = elim found.fewer as (λ _. (next ≡ Some edge) ⊎ (lower_edges edge (r ∷ rs) < lower_edges y (r ∷ rs))) [
        | inl here ↦
            let is : n ≡ edge = cc in
            elim near.one as (λ _. (next ≡ Some edge) ⊎ (lower_edges edge (r ∷ rs) < lower_edges y (r ∷ rs))) [
              | inl old ↦ inl (old ∙ here)
              | inr at ↦
                  let less : is_lower edge r.bottom < is_lower y r.bottom = rw (at ∙ is) (is_lower_at y edge down) in
                  inr (omega (arith, is_lower_falls y edge r.top (omega (arith, ints)), lower_edges_fall y edge rs (omega (arith, ints))))
            ]
        | inr less ↦ inr (omega (arith, is_lower_falls y edge r.top (omega (arith, ints)), is_lower_falls y edge r.bottom (omega (arith, ints))))
      ];
    }

-- one that has ended has no points from row y on
skips : (next : Option ℤ) (y : ℤ) (r : Rect) (rs : List Rect) (o : Option ℤ) → r.bottom ≤ℤ y → Finds next y rs o → Finds next y (r ∷ rs) o
skips next y r rs None ended found = record {
  none = found.none;
  same = λ x z after. ap (λ t. t || region_holds rs x z) (not_in_row r x z (inr (omega (arith, ints)))) ∙ found.same x z after;
}
skips next y r rs (Some edge) ended found =
    let down : y <ℤ edge = found.below in
    record {
      below = down;
      nearest = found.nearest;
      same = λ x z after within. ap (λ t. t || region_holds rs x z) (not_in_row r x z (inr (omega (arith, ints)))) ∙ found.same x z after within
          ∙ sym (ap (λ t. t || region_holds rs x y) (not_in_row r x y (inr ended)));
      fewer = elim found.fewer as (λ _. (next ≡ Some edge) ⊎ (lower_edges edge (r ∷ rs) < lower_edges y (r ∷ rs))) [
        | inl old ↦ inl old
        | inr less ↦ inr (omega (arith, is_lower_falls y edge r.top (omega (arith, ints)), is_lower_falls y edge r.bottom (omega (arith, ints))))
      ];
    }

finds : (next : Option ℤ) (y : ℤ) (rects : List Rect) → InOrder (λ r. r.top) rects → IfSome next (λ old. y <ℤ old) → Finds next y rects (next_from next y rects)
finds next y [] order before = nothing_left next y before
finds next y (r ∷ rs) order before =
    cond_both (int_lt y r.top) (Some (nearer next r.top)) (next_from (cond (int_lt y r.bottom) (Some (nearer next r.bottom)) next) y rs) (Finds next y (r ∷ rs))
    (λ h. stops next y r rs (nearer next r.top) order (nearer_is next y r.top before (lt_true y r.top h)))
    (λ h.
    let begun : r.top ≤ℤ y = lt_false y r.top h in
    cond_both (int_lt y r.bottom) (Some (nearer next r.bottom)) next (λ n. Finds next y (r ∷ rs) (next_from n y rs))
    (λ k.
    let near : Nearer next y r.bottom (nearer next r.bottom) = nearer_is next y r.bottom before (lt_true y r.bottom k) in
    keeps next y r rs (nearer next r.bottom) (next_from (Some (nearer next r.bottom)) y rs) begun near
    (finds (Some (nearer next r.bottom)) y rs (order_tail (λ q. q.top) r rs order) near.below))
    (λ k. skips next y r rs (next_from next y rs) (lt_false y r.bottom k) (finds next y rs (order_tail (λ q. q.top) r rs order) before)))

next_of : (y : ℤ) (rects : List Rect) (o : Option ℤ) → Finds None y rects o → IsNextEdge rects y o
next_of y rects None found = found.same
next_of y rects (Some edge) found = record {
  below = found.below;
  same = found.same;
  fewer = elim found.fewer as (λ _. lower_edges edge rects < lower_edges y rects) [ inl old ↦ cc (old) | inr less ↦ less ];
}

-- what the search finds
pub next_is : (y : ℤ) (rects : List Rect) → InOrder (λ r. r.top) rects → IsNextEdge rects y (next_from None y rects)
next_is y rects order = next_of y rects (next_from None y rects) (finds None y rects order tt)

pub next_first : (next : Option ℤ) (y : ℤ) (left : List Rect) (r : Rect) (rest : List Rect) → left ≡ r ∷ rest → y <ℤ r.top → Some (nearer next r.top) ≡ next_from next y left
next_first next y left r rest is lower =
    rw is (sym (cond-true (int_lt y r.top) (Some (nearer next r.top)) (next_from (cond (int_lt y r.bottom) (Some (nearer next r.bottom)) next) y rest) (true_lt y r.top lower)))

pub next_last : (next : Option ℤ) (y : ℤ) (left : List Rect) → length left < 1 → next ≡ next_from next y left
next_last next y left none = ap (next_from next y) (sym (nil_from_length left (omega arith)))
