-- The events whose clock went back, one event more.
use Rattle.std.specs.Prelude.{◌≡◌, ℕ, max, nat_lt, Bool, true, false, ◌||◌, List, [], ◌∷◌, Option, Some, None, if◌then◌else◌}
use Rattle.std.proofs.Common.{refl, ap, sym, ◌∙◌, arith}
use Rattle.std.proofs.lemmas.Bool.Decides.{nat_tests}
use Rattle.std.specs.List.{list_any}
use Rattle.raw_events.specs.declared.event.RawEvent.{RawEvent}
use Rattle.recording_counts.specs.declared.moments.Span.{Span}
use Rattle.recording_counts.specs.Counted.{counted, risen}
use Rattle.recording_counts.specs.Moments.{back_events, is_below, span_of, widened}
use Rattle.recording_counts.proofs.LineSteps.{counted_more}

below_either : (m a b : ℕ) → nat_lt m (max a b) ≡ (nat_lt m b || nat_lt m a)
below_either m a b = grind (arith, nat_tests)

or_false : (a : Bool) → a ≡ (a || false)
or_false true = refl
or_false false = refl

one_more : (o : Option Span) (any : Bool) (m n : ℕ) → is_below o m ≡ any → is_below (Some (widened o n)) m ≡ (nat_lt m n || any)
one_more None any m n h = rw (← h) (or_false (nat_lt m n))
one_more (Some s) any m n h = rw (← h) (below_either m s.last n)

-- a moment is below the greatest one exactly if it is below some
below_some : (m : ℕ) (past : List RawEvent) → is_below (span_of past) m ≡ list_any (λ p. nat_lt m p.moment) past
below_some m [] = refl
below_some m (p ∷ past) = one_more (span_of past) (list_any (λ q. nat_lt m q.moment) past) m p.moment (below_some m past)

-- the number rises where the clock went back
pub back_more : (e : RawEvent) (past : List RawEvent) (span : Option Span) (n : ℕ) → span ≡ span_of past → n ≡ counted (back_events past)
    → (if is_below span e.moment then risen n else n) ≡ counted (back_events (e ∷ past))
back_more e past span n s h = rw (s, below_some e.moment past) (by_test (list_any (λ p. nat_lt e.moment p.moment) past))
  where
    by_test : (b : Bool) → (if b then risen n else n) ≡ counted (if b then e ∷ back_events past else back_events past)
    by_test true = ap risen h ∙ counted_more e (back_events past)
    by_test false = h
