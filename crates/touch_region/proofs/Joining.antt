-- Spans joined one by one, from left to right.
use Rattle.std.proofs.Common.{◌≡◌, ◌<◌, List, [], ◌∷◌, ◌++◌, length, Bool, true, false, ◌||◌, refl, sym, ◌∙◌, ap, arith, inl, inr}
use Rattle.std.specs.Prelude.{ℤ, ◌≤ℤ◌, ◌<ℤ◌}
use Rattle.std.specs.List.{All}
use Rattle.std.proofs.lemmas.Bool.{or_cases, or_left, or_right}
use Rattle.std.proofs.lemmas.Int.{ints, by_lt_z}
use Rattle.std.proofs.lemmas.List.{nil_from_length}
use Rattle.std.proofs.lemmas.List.Elements.{All-nil, All-weaker, All-head, All-tail, All-push}
use Rattle.std.proofs.lemmas.List.Folds.{list_any-append}
use Rattle.touch_region.specs.declared.span.Span.{Span}
use Rattle.touch_region.specs.Between.{is_between}
use Rattle.touch_region.specs.Spans.{spans_hold, AreApart, InOrder}
use Rattle.touch_region.proofs.Rising.{same_test, none_apart, between_from, between_until, is_between_since, apart_and_one, order_head, order_tail}

-- after some spans: those that are complete, the last one, which may still grow, and the rest
pub record Joined (all joined : List Span) (last : Span) (rest : List Span) : Type 0 where
  pub apart : AreApart (λ s. s.from) (λ s. s.until) joined
  pub ended : All (λ s. s.until ≤ℤ last.from) joined
  pub wide : last.from <ℤ last.until
  pub behind : All (λ s. last.from ≤ℤ s.from) rest
  pub order : InOrder (λ s. s.from) rest
  pub each : All (λ s. s.from <ℤ s.until) rest
  pub same : (x : ℤ) → (spans_hold joined x || (is_between last.from x last.until || spans_hold rest x)) ≡ spans_hold all x

pub one_and_more : (a b c : Bool) → ((a || (b || false)) || c) ≡ (a || (b || c))
one_and_more true b c = refl
one_and_more false true c = refl
one_and_more false false c = refl

either : (a b c : Bool) → ((a || b) || c) ≡ (a || (b || c))
either true b c = refl
either false b c = refl

covers : (a b c : Bool) → (b ≡ true → a ≡ true) → (a || c) ≡ (a || (b || c))
covers true b c f = refl
covers false false c f = refl
covers false true c f = cc (f refl)

-- the spans before the last one, and then the last one too
pub with_last : (joined : List Span) (last : Span) (x : ℤ) → spans_hold (joined ++ last ∷ []) x ≡ (spans_hold joined x || (is_between last.from x last.until || false))
with_last joined last x = list_any-append (λ s. is_between s.from x s.until) joined (last ∷ [])

pub joined_first : (all : List Span) (s : Span) (rest : List Span) → all ≡ s ∷ rest → All (λ t. t.from <ℤ t.until) all → InOrder (λ t. t.from) all → Joined all [] s rest
joined_first all s rest is wide order =
    let each : All (λ t. t.from <ℤ t.until) (s ∷ rest) = rw is at wide in
    let rising : InOrder (λ t. t.from) (s ∷ rest) = rw is at order in
    record {
      apart = none_apart (λ t. t.from) (λ t. t.until);
      ended = All-nil (λ t. t.until ≤ℤ s.from);
      wide = All-head (λ t. t.from <ℤ t.until) s rest each;
      behind = order_head (λ t. t.from) s rest rising;
      order = order_tail (λ t. t.from) s rest rising;
      each = All-tail (λ t. t.from <ℤ t.until) s rest each;
      same = λ x. ap (λ ts. spans_hold ts x) (sym is);
    }

-- a span right of the last one begins a new one
pub joined_more : (all joined : List Span) (last : Span) (left : List Span) (s : Span) (rest : List Span) → left ≡ s ∷ rest → Joined all joined last left → last.until <ℤ s.from
    → Joined all (joined ++ last ∷ []) s rest
joined_more all joined last left s rest is so order =
    let each : All (λ t. t.from <ℤ t.until) (s ∷ rest) = rw is at so.each in
    let rising : InOrder (λ t. t.from) (s ∷ rest) = rw is at so.order in
    let wide : last.from <ℤ last.until = so.wide in
    record {
      apart = apart_and_one (λ t. t.from) (λ t. t.until) last.from joined last so.apart so.ended (omega (arith, ints)) wide;
      ended = All-push (λ t. t.until ≤ℤ s.from) joined last (All-weaker (λ t. t.until ≤ℤ last.from) (λ t. t.until ≤ℤ s.from) (λ t h. omega (arith, ints)) joined so.ended) (omega (arith, ints));
      wide = All-head (λ t. t.from <ℤ t.until) s rest each;
      behind = order_head (λ t. t.from) s rest rising;
      order = order_tail (λ t. t.from) s rest rising;
      each = All-tail (λ t. t.from <ℤ t.until) s rest each;
      same = λ x. ap (λ b. b || spans_hold (s ∷ rest) x) (with_last joined last x)
          ∙ (one_and_more (spans_hold joined x) (is_between last.from x last.until) (spans_hold (s ∷ rest) x)
          ∙ (ap (λ ts. spans_hold joined x || (is_between last.from x last.until || spans_hold ts x)) (sym is) ∙ so.same x));
    }

-- the last span takes in one that it meets, and then ends where the farther one of the two ends
joined_with : (all joined : List Span) (last : Span) (left : List Span) (s : Span) (rest : List Span) (until : ℤ) → left ≡ s ∷ rest → Joined all joined last left → last.until ≤ℤ until
    → ((x : ℤ) → (is_between last.from x until || spans_hold rest x) ≡ (is_between last.from x last.until || spans_hold (s ∷ rest) x))
    → Joined all joined (record { from = last.from; until = until }) rest
joined_with all joined last left s rest until is so far meet =
    let each : All (λ t. t.from <ℤ t.until) (s ∷ rest) = rw is at so.each in
    let rising : InOrder (λ t. t.from) (s ∷ rest) = rw is at so.order in
    let behind : All (λ t. last.from ≤ℤ t.from) (s ∷ rest) = rw is at so.behind in
    let wide : last.from <ℤ last.until = so.wide in
    record {
      apart = so.apart;
      ended = so.ended;
      wide = omega (arith, ints);
      behind = All-tail (λ t. last.from ≤ℤ t.from) s rest behind;
      order = order_tail (λ t. t.from) s rest rising;
      each = All-tail (λ t. t.from <ℤ t.until) s rest each;
      same = λ x. ap (λ b. spans_hold joined x || b) (meet x)
          ∙ (ap (λ ts. spans_hold joined x || (is_between last.from x last.until || spans_hold ts x)) (sym is) ∙ so.same x);
    }

begins_right : (all joined : List Span) (last : Span) (left : List Span) (s : Span) (rest : List Span) → left ≡ s ∷ rest → Joined all joined last left → last.from ≤ℤ s.from
begins_right all joined last left s rest is so = All-head (λ t. last.from ≤ℤ t.from) s rest (rw is at so.behind)

grown : (from x mid low until : ℤ) → from ≤ℤ low → low ≤ℤ mid → mid ≤ℤ until → is_between from x until ≡ (is_between from x mid || is_between low x until)
grown from x mid low until a b d =
    same_test (is_between from x until) (is_between from x mid || is_between low x until)
    (λ h.
    let above : from ≤ℤ x = between_from from x until h in
    let under : x <ℤ until = between_until from x until h in
    by_lt_z x mid
    (λ left. or_left (is_between from x mid) (is_between low x until) (is_between_since from x mid above left))
    (λ right. or_right (is_between from x mid) (is_between low x until) (is_between_since low x until (omega (arith, ints)) under)))
    (λ h. elim (or_cases (is_between from x mid) (is_between low x until) h) as (λ _. is_between from x until ≡ true) [
      | inl p ↦
          let above : from ≤ℤ x = between_from from x mid p in
          let under : x <ℤ mid = between_until from x mid p in
          is_between_since from x until above (omega (arith, ints))
      | inr p ↦
          let above : low ≤ℤ x = between_from low x until p in
          is_between_since from x until (omega (arith, ints)) (between_until low x until p)
    ])

pub joined_grown : (all joined : List Span) (last : Span) (left : List Span) (s : Span) (rest : List Span) → left ≡ s ∷ rest → Joined all joined last left → s.from ≤ℤ last.until → last.until ≤ℤ s.until
    → Joined all joined (record { from = last.from; until = s.until }) rest
joined_grown all joined last left s rest is so meets far =
    joined_with all joined last left s rest s.until is so far
    (λ x. ap (λ b. b || spans_hold rest x) (grown last.from x last.until s.from s.until (begins_right all joined last left s rest is so) meets far)
    ∙ either (is_between last.from x last.until) (is_between s.from x s.until) (spans_hold rest x))

pub joined_kept : (all joined : List Span) (last : Span) (left : List Span) (s : Span) (rest : List Span) → left ≡ s ∷ rest → Joined all joined last left → s.until ≤ℤ last.until
    → Joined all joined last rest
joined_kept all joined last left s rest is so near =
    let right : last.from ≤ℤ s.from = begins_right all joined last left s rest is so in
    joined_with all joined last left s rest last.until is so (omega (arith, ints))
    (λ x. covers (is_between last.from x last.until) (is_between s.from x s.until) (spans_hold rest x)
    (λ h.
    let above : s.from ≤ℤ x = between_from s.from x s.until h in
    let under : x <ℤ s.until = between_until s.from x s.until h in
    is_between_since last.from x last.until (omega (arith, ints)) (omega (arith, ints))))

-- after all spans
pub joined_apart : (all joined : List Span) (last : Span) (rest : List Span) → Joined all joined last rest → AreApart (λ s. s.from) (λ s. s.until) (joined ++ last ∷ [])
joined_apart all joined last rest so =
    let wide : last.from <ℤ last.until = so.wide in
    apart_and_one (λ t. t.from) (λ t. t.until) last.from joined last so.apart so.ended (omega (arith, ints)) wide

pub joined_same : (all joined : List Span) (last : Span) (rest : List Span) → length rest < 1 → Joined all joined last rest → (x : ℤ) → spans_hold (joined ++ last ∷ []) x ≡ spans_hold all x
joined_same all joined last rest none so x =
    let empty : rest ≡ [] = nil_from_length rest (omega arith) in
    with_last joined last x ∙ (ap (λ ts. spans_hold joined x || (is_between last.from x last.until || spans_hold ts x)) (sym empty) ∙ so.same x)
