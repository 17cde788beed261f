-- Spans one after the other.
use Rattle.std.specs.Prelude.{Bool, ℤ, ◌≤ℤ◌, ◌<ℤ◌, List}
use Rattle.std.specs.List.{list_any, All, AllPairs}
use Rattle.touch_region.specs.declared.span.Span.{Span}
use Rattle.touch_region.specs.Between.{is_between}

-- the number lies in one of the spans
abbrev pub spans_hold : List Span → ℤ → Bool
spans_hold spans x = list_any (λ s. is_between s.from x s.until) spans

-- no span is empty, and each ends before the next ones begin
pub record AreApart {X : Type 0} (from until : X → ℤ) (xs : List X) : Type 0 where
  pub wide : All (λ x. from x <ℤ until x) xs
  pub rising : AllPairs (λ x y. until x ≤ℤ from y) xs

-- each begins no earlier than those before it
abbrev pub InOrder : {X : Type 0} → (X → ℤ) → List X → Type 0
InOrder from xs = AllPairs (λ x y. from x ≤ℤ from y) xs
