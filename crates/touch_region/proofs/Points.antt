-- Rows in which a rectangle has points, and rows and columns in which it has none.
use Rattle.std.proofs.Common.{◌≡◌, List, ◌&&◌, false, sym, ap, ◌∙◌, arith, inl, inr, ◌⊎◌}
use Rattle.std.specs.Prelude.{ℤ, ◌≤ℤ◌, ◌<ℤ◌}
use Rattle.std.specs.List.{All}
use Rattle.std.proofs.lemmas.Bool.{and_right}
use Rattle.std.proofs.lemmas.Int.{ints}
use Rattle.std.proofs.lemmas.List.Elements.{All-weaker}
use Rattle.std.proofs.lemmas.List.Folds.{list_any_none}
use Rattle.touch_region.specs.declared.rectangle.Rect.{Rect}
use Rattle.touch_region.specs.Between.{is_between}
use Rattle.touch_region.specs.Rectangle.{rect_holds}
use Rattle.touch_region.specs.RectList.{region_holds}
use Rattle.touch_region.proofs.Rising.{not_true, between_from, between_until, is_between_since}

-- a span that lies wholly on one side of z does not have it
pub not_between : (from z until : ℤ) → (z <ℤ from) ⊎ (until ≤ℤ z) → is_between from z until ≡ false
not_between from z until side =
    not_true (is_between from z until) (λ h.
    let a : from ≤ℤ z = between_from from z until h in
    let b : z <ℤ until = between_until from z until h in
    elim side as (λ _. is_between from z until ≡ false) [ inl l ↦ absurd (omega (arith, ints)) | inr r ↦ absurd (omega (arith, ints)) ])

pub not_in_row : (r : Rect) (x z : ℤ) → (z <ℤ r.top) ⊎ (r.bottom ≤ℤ z) → rect_holds r x z ≡ false
not_in_row r x z side = and_right (is_between r.left x r.right) (is_between r.top z r.bottom) (not_between r.top z r.bottom side)

-- all rows of a rectangle have the same columns
pub same_in_rows : (r : Rect) (x y z : ℤ) → r.top ≤ℤ y → y ≤ℤ z → z <ℤ r.bottom → rect_holds r x z ≡ rect_holds r x y
same_in_rows r x y z begun order within =
    ap (λ b. is_between r.left x r.right && b) (is_between_since r.top z r.bottom (omega (arith, ints)) within)
    ∙ ap (λ b. is_between r.left x r.right && b) (sym (is_between_since r.top y r.bottom begun (omega (arith, ints))))

-- above the first top edge no rectangle has a point
pub none_above : (rects : List Rect) (x z : ℤ) → All (λ r. z <ℤ r.top) rects → region_holds rects x z ≡ false
none_above rects x z above =
    list_any_none (λ r. rect_holds r x z) rects
    (All-weaker (λ r. z <ℤ r.top) (λ r. rect_holds r x z ≡ false) (λ r h. not_in_row r x z (inl h)) rects above)
