-- Pilfering: one step, and the test for it.
use Rattle.std.proofs.Common.{ℕ, Bool, ◌||◌, IsTrue, ◌≡◌, ◌↔◌, ◌⊎◌, inl, inr, List, [], ◌∷◌, ◌++◌, refl, sym, ap, subst}
use Rattle.std.proofs.lemmas.Bool.{and_parts, and_from, or_cases, or_left, or_right, true≢false}
use Rattle.routing_rules.specs.Pairs.{has_any}
use Rattle.routing_rules.specs.Taking.{pilfers}
use Rattle.routing_rules.specs.Marks.{Mark, held, pilfering}
use Rattle.routing_rules.specs.Places.{HoldsAny, HoldsThroughout, HoldsSince}
use Rattle.routing_rules.specs.Laws.{PilferingStep, PilferingLaw}
use Rattle.routing_rules.proofs.HoldingLaws.{held_any_law}

-- one step, by the index of the step that did it
since_step_at : (does : Mark → Bool) (m : Mark) (before : List Mark) (w d : ℕ) (later : List Mark) (mark : Mark) (rest : List Mark)
    → m ∷ before ≡ later ++ mark ∷ rest → IsTrue (does mark) → HoldsThroughout later (mark ∷ rest) w d
    → HoldsAny (m ∷ before) w d × (IsTrue (does m) ⊎ HoldsSince does before w d)
since_step_at does m before w d [] mark rest e p h = (subst (λ xs. HoldsAny xs w d) (sym e) h, inl (cc))
since_step_at does m before w d (x ∷ later) mark rest e p h = (
  subst (λ xs. HoldsAny xs w d) (sym e) h.0,
  inr (record { later = later; mark = mark; before = rest; whole = cc }, p, h.1),
)

-- a window has held something since a step that did it, after one step more
pub since_step : (does : Mark → Bool) (m : Mark) (before : List Mark) (w d : ℕ)
    → HoldsSince does (m ∷ before) w d ↔ (HoldsAny (m ∷ before) w d × (IsTrue (does m) ⊎ HoldsSince does before w d))
since_step does m before w d = (
  λ s. since_step_at does m before w d s.0.later s.0.mark s.0.before s.0.whole s.1 s.2,
  λ h.
      elim h.1 [
        | inl p ↦ (record { later = []; mark = m; before = before; whole = refl }, p, h.0)
        | inr s ↦ (
          record { later = m ∷ s.0.later; mark = s.0.mark; before = s.0.before; whole = ap (λ xs. m ∷ xs) s.0.whole },
          s.1,
          (subst (λ xs. HoldsAny (m ∷ xs) w d) s.0.whole h.0, s.2),
        )
      ],
)

-- it still holds something
pub since_holds : (does : Mark → Bool) (ms : List Mark) (w d : ℕ) → HoldsSince does ms w d → HoldsAny ms w d
since_holds does ms w d s = at s.0.later s.0.whole s.2
  where
    at : (later : List Mark) → ms ≡ later ++ s.0.mark ∷ s.0.before → HoldsThroughout later (s.0.mark ∷ s.0.before) w d → HoldsAny ms w d
    at [] e h = subst (λ xs. HoldsAny xs w d) (sym e) h
    at (x ∷ later) e h = subst (λ xs. HoldsAny xs w d) (sym e) h.0

pub pilfering_step : PilferingStep
pilfering_step m before w d = since_step (λ k. pilfers k.taken w d) m before w d

none_pilfers_at : (w d : ℕ) (later : List Mark) (mark : Mark) (rest : List Mark) → [] ≡ later ++ mark ∷ rest → ⊥
none_pilfers_at w d [] mark rest e = cc
none_pilfers_at w d (x ∷ later) mark rest e = cc

pub pilfering_law : PilferingLaw
pilfering_law [] w d = (λ e. absurd (true≢false (sym e)), λ s. absurd (none_pilfers_at w d s.0.later s.0.mark s.0.before s.0.whole))
pilfering_law (m ∷ before) w d = (
  λ e.
      let p = and_parts (has_any (held (m ∷ before)) w d) (pilfers m.taken w d || pilfering before w d) e in
      (pilfering_step m before w d).1 (
        (held_any_law (m ∷ before) w d).0 p.0,
        elim (or_cases (pilfers m.taken w d) (pilfering before w d) p.1) [ inl a ↦ inl a | inr b ↦ inr ((pilfering_law before w d).0 b) ],
      ),
  λ s.
      let q = (pilfering_step m before w d).0 s in
      and_from _ _
      ((held_any_law (m ∷ before) w d).1 q.0)
      (elim q.1 [ inl a ↦ or_left _ _ a | inr b ↦ or_right _ _ ((pilfering_law before w d).1 b) ]),
)
