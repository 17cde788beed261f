-- A touch state and the marks of steps.
use Rattle.std.proofs.Common.{ℕ, ◌≡◌, ◌&&◌, ◌||◌, ◌==◌, not, Bool, true, false, List, [], ◌∷◌, length, if◌then◌else◌, refl, sym, ap, ap₂, ◌∙◌, inl, inr}
use Rattle.std.proofs.lemmas.Bool.{or_cases, or_left, or_right, and_parts, and_from, eq-eqb, true≢false, not-true}
use Rattle.routing_rules.specs.Pairs.{Pair, has, has_any}
use Rattle.routing_rules.specs.Taking.{takes, pilfers}
use Rattle.routing_rules.specs.Marks.{held as held_by}
use Rattle.routing_rules.proofs.HoldingLaws.{held_step}
use Rattle.touch_state.specs.Touches.{Touches, held, since, holds, any}
use Rattle.touch_state.specs.Laws.{StepLaw}
use Rattle.touch_state.proofs.Sets.{not_empty, some_in}

-- a pair of the window and device has some id, and a pair with an id is one of them
some_pair : (qs : List Pair) (w d : ℕ) → has_any qs w d ≡ true → (i : ℕ) × (has qs w d i ≡ true)
some_pair [] w d h = absurd (true≢false (sym h))
some_pair (q ∷ qs) w d h =
    elim (or_cases (q.window == w && q.device == d) (has_any qs w d) h) [
      | inl t ↦ (q.id, or_left _ (has qs w d q.id) (and_from (q.window == w && q.device == d) (q.id == q.id) t (eq-eqb q.id q.id refl)))
      | inr t ↦ let r = some_pair qs w d t in (r.0, or_right _ (has qs w d r.0) r.1)
    ]

pair_any : (qs : List Pair) (w d i : ℕ) → has qs w d i ≡ true → has_any qs w d ≡ true
pair_any [] w d i h = absurd (true≢false (sym h))
pair_any (q ∷ qs) w d i h =
    elim (or_cases (q.window == w && q.device == d && q.id == i) (has qs w d i) h) [
      | inl t ↦ or_left _ (has_any qs w d) (and_parts (q.window == w && q.device == d) (q.id == i) t).0
      | inr t ↦ or_right (q.window == w && q.device == d) (has_any qs w d) (pair_any qs w d i t)
    ]

-- two truth values with the same condition are equal
alike : (a b : Bool) → (a ≡ true → b ≡ true) → (b ≡ true → a ≡ true) → a ≡ b
alike true b f g = sym (f refl)
alike false true f g = g refl
alike false false f g = refl

-- a window holds something if it holds a pointer
pub any_agrees : (t : Touches) (qs : List Pair) (w d : ℕ) → ((i : ℕ) → holds t w i ≡ has qs w d i) → any t w ≡ has_any qs w d
any_agrees t qs w d same =
    alike (any t w) (has_any qs w d)
    (λ a. let s = some_in (held t w) (not-true (held t w == 0) a) in pair_any qs w d s.0 (sym (same s.0) ∙ s.1))
    (λ h. let p = some_pair qs w d h in ap not (not_empty p.0 (held t w) (same p.0 ∙ p.1)))

pub step_law : StepLaw
step_law old new m before d a c =
    record {
      hold = hold;
      began = λ w.
          c.began w
          ∙ ap₂ (λ x y. if x && not y then length before else since old w) (later w) (any_agrees old (held_by before) w d (a.hold w))
          ∙ ap (λ n. if has_any (held_by (m ∷ before)) w d && not (has_any (held_by before) w d) then length before else n) (a.began w);
      pilfer = λ w. c.pilfer w ∙ ap₂ (λ x y. x && (pilfers m.taken w d || y)) (later w) (a.pilfer w);
    }
  where
    hold : (w i : ℕ) → holds new w i ≡ has (held_by (m ∷ before)) w d i
    hold w i =
        c.hold w i
        ∙ ap (λ h. has m.given w d i || h && not (takes m.taken w d i)) (a.hold w i)
        ∙ turned (has m.given w d i) (has (held_by before) w d i) (takes m.taken w d i)
        ∙ sym (held_step m before w d i)
      where
        turned : (g h t : Bool) → (g || h && not t) ≡ (not t && h || g)
        turned true true true = refl
        turned true true false = refl
        turned true false true = refl
        turned true false false = refl
        turned false true true = refl
        turned false true false = refl
        turned false false true = refl
        turned false false false = refl

    later : (w : ℕ) → any new w ≡ has_any (held_by (m ∷ before)) w d
    later w = any_agrees new (held_by (m ∷ before)) w d (hold w)
