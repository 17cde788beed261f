-- Holding: one step, and the list of pairs that records it.
use Rattle.std.proofs.Common.{ℕ, Bool, true, false, not, ◌&&◌, ◌||◌, ◌==◌, IsTrue, ◌≡◌, ◌⊎◌, inl, inr, List, [], ◌∷◌, ◌++◌, refl, sym, ap, ◌∙◌}
use Rattle.std.proofs.lemmas.Bool.{and_parts, and_from, or_cases, or_left, or_right, eqb-true, eq-eqb, not-true, true≢false}
use Rattle.std.proofs.lemmas.Map.Views.{any-filter_same}
use Rattle.std.proofs.lemmas.List.Folds.{list_any-append}
use Rattle.routing_rules.specs.Pairs.{Pair, has, has_any}
use Rattle.routing_rules.specs.Taking.{Taking, takes}
use Rattle.routing_rules.specs.Marks.{Mark, kept, held}
use Rattle.routing_rules.specs.Places.{NoneTakes, Holds}
use Rattle.routing_rules.specs.Laws.{HoldsStep, HeldLaw, HeldAnyLaw, HeldStep}

-- one step, by where the giving place is
holds_step_at : (m : Mark) (before : List Mark) (w d i : ℕ) (later : List Mark) (mark : Mark) (rest : List Mark)
    → m ∷ before ≡ later ++ mark ∷ rest → IsTrue (has mark.given w d i) → NoneTakes later w d i
    → IsTrue (has m.given w d i) ⊎ (Holds before w d i × (takes m.taken w d i ≡ false))
holds_step_at m before w d i [] mark rest e g n = inl (cc)
holds_step_at m before w d i (l ∷ later) mark rest e g n =
    inr ((record { later = later; mark = mark; before = rest; whole = cc }, g, n.1), let t = n.0 in cc)

pub holds_step : HoldsStep
holds_step m before w d i = (
  λ h. holds_step_at m before w d i h.0.later h.0.mark h.0.before h.0.whole h.1 h.2,
  elim [
    | inl g ↦ (record { later = []; mark = m; before = before; whole = refl }, g, tt)
    | inr h ↦ (
      record { later = m ∷ h.0.0.later; mark = h.0.0.mark; before = h.0.0.before; whole = ap (λ xs. m ∷ xs) h.0.0.whole },
      h.0.1,
      (h.1, h.0.2),
    )
  ],
)

none_held_at : (w d i : ℕ) (later : List Mark) (mark : Mark) (rest : List Mark) → [] ≡ later ++ mark ∷ rest → ⊥
none_held_at w d i [] mark rest e = cc
none_held_at w d i (l ∷ later) mark rest e = cc

pub none_held : (w d i : ℕ) → Holds [] w d i → ⊥
none_held w d i h = none_held_at w d i h.0.later h.0.mark h.0.before h.0.whole

-- a pair that passes the test of its window, device and id is taken where these are
same_taken : (t : Taking) (w d i : ℕ) (q : Pair) → (q.window == w && q.device == d && q.id == i) ≡ true
    → not (takes t q.window q.device q.id) ≡ not (takes t w d i)
same_taken t w d i q e =
    let p = and_parts (q.window == w && q.device == d) (q.id == i) e in
    let r = and_parts (q.window == w) (q.device == d) p.0 in
    let a = eqb-true q.window w r.0 in
    let b = eqb-true q.device d r.1 in
    let c = eqb-true q.id i p.1 in
    cc

pub has-kept : (t : Taking) (qs : List Pair) (w d i : ℕ) → has (kept t qs) w d i ≡ (not (takes t w d i) && has qs w d i)
has-kept t qs w d i =
    any-filter_same
    (λ q. q.window == w && q.device == d && q.id == i)
    (λ q. not (takes t q.window q.device q.id))
    (not (takes t w d i))
    (same_taken t w d i)
    qs

pub held_step : HeldStep
held_step m before w d i =
    list_any-append (λ q. q.window == w && q.device == d && q.id == i) (kept m.taken (held before)) m.given
    ∙ ap (λ b. b || has m.given w d i) (has-kept m.taken (held before) w d i)

not_false : (x : Bool) → x ≡ false → not x ≡ true
not_false x e = rw e

pub held_law : HeldLaw
held_law [] w d i = (λ e. absurd (true≢false (sym e)), λ h. absurd (none_held w d i h))
held_law (m ∷ before) w d i = (
  λ e.
      (holds_step m before w d i).1
      (elim (or_cases (not (takes m.taken w d i) && has (held before) w d i) (has m.given w d i) (sym (held_step m before w d i) ∙ e)) [
        | inl k ↦
            let p = and_parts (not (takes m.taken w d i)) (has (held before) w d i) k in
            inr ((held_law before w d i).0 p.1, not-true _ p.0)
        | inr g ↦ inl g
      ]),
  λ h.
      held_step m before w d i
      ∙ elim ((holds_step m before w d i).0 h) [
        | inl g ↦ or_right _ _ g
        | inr k ↦ or_left _ _ (and_from _ _ (not_false _ k.1) ((held_law before w d i).1 k.0))
      ],
)

-- some pair of a window and device is one with some id
pub some_id : (qs : List Pair) (w d : ℕ) → has_any qs w d ≡ true → (i : ℕ) × (has qs w d i ≡ true)
some_id [] w d e = absurd (true≢false (sym e))
some_id (q ∷ qs) w d e =
    elim (or_cases (q.window == w && q.device == d) (has_any qs w d) e) [
      | inl here ↦ (q.id, or_left _ _ (and_from _ _ here (eq-eqb q.id q.id refl)))
      | inr there ↦ let r = some_id qs w d there in (r.0, or_right _ _ r.1)
    ]

pub any_from_id : (qs : List Pair) (w d i : ℕ) → has qs w d i ≡ true → has_any qs w d ≡ true
any_from_id [] w d i e = e
any_from_id (q ∷ qs) w d i e =
    elim (or_cases (q.window == w && q.device == d && q.id == i) (has qs w d i) e) [
      | inl here ↦ or_left _ _ (and_parts (q.window == w && q.device == d) (q.id == i) here).0
      | inr there ↦ or_right _ _ (any_from_id qs w d i there)
    ]

pub held_any_law : HeldAnyLaw
held_any_law ms w d = (
  λ e. let r = some_id (held ms) w d e in (r.0, (held_law ms w d r.0).0 r.1),
  λ h. any_from_id (held ms) w d h.0 ((held_law ms w d h.0).1 h.1),
)
