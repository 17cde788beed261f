-- Since when a window holds something: one step, and the number that records it.
use Rattle.std.proofs.Common.{ℕ, false, not, IsTrue, ◌≡◌, ◌↔◌, ◌⊎◌, inl, inr, List, [], ◌∷◌, ◌++◌, length, refl, sym, ap, ◌∙◌, subst₂}
use Rattle.std.proofs.lemmas.Bool.{and_parts, and_from, not-true, cases_Bool, both_ways}
use Rattle.routing_rules.specs.Pairs.{has_any}
use Rattle.routing_rules.specs.Marks.{Mark, held, begins, since}
use Rattle.routing_rules.specs.Places.{HoldsAny, Begins, NoneBegins, IsSince}
use Rattle.routing_rules.specs.Laws.{SinceStep, SinceLaw}
use Rattle.routing_rules.proofs.HoldingLaws.{held_any_law, none_held}

pub begins_is : (m : Mark) (before : List Mark) (w d : ℕ) → IsTrue (begins m before w d) ↔ Begins m before w d
begins_is m before w d = (
  λ e.
      let p = and_parts (has_any (held (m ∷ before)) w d) (not (has_any (held before) w d)) e in (
        λ h. both_ways _ (not-true _ p.1) ((held_any_law before w d).1 h),
        (held_any_law (m ∷ before) w d).0 p.0,
      ),
  λ b.
      and_from _ _
      ((held_any_law (m ∷ before) w d).1 b.1)
      (elim (cases_Bool (has_any (held before) w d))
      [ inl h ↦ absurd (b.0 ((held_any_law before w d).0 h)) | inr f ↦ ap not f ]),
)

-- two places that are the same, the one from the other
same_begins : (m m' : Mark) (before before' : List Mark) (w d : ℕ) → m ≡ m' → before ≡ before' → Begins m before w d → Begins m' before' w d
same_begins m m' before before' w d p q b = subst₂ (λ x xs. Begins x xs w d) p q b

-- one step, by the index of the step at which it began
since_step_at : (m : Mark) (before : List Mark) (w d n : ℕ) (later : List Mark) (mark : Mark) (rest : List Mark)
    → m ∷ before ≡ later ++ mark ∷ rest → Begins mark rest w d → length rest ≡ n → NoneBegins later (mark ∷ rest) w d
    → (Begins m before w d × (length before ≡ n)) ⊎ ((¬ Begins m before w d) × IsSince before w d n)
since_step_at m before w d n [] mark rest e b l none =
    inl (same_begins mark m rest before w d (cc) (cc) b, let q : before ≡ rest = cc in ap length q ∙ l)
since_step_at m before w d n (x ∷ later) mark rest e b l none =
    inr (
      λ c. none.0 (same_begins m x before (later ++ mark ∷ rest) w d (cc) (cc) c),
      (record { later = later; mark = mark; before = rest; whole = cc }, b, l, none.1),
    )

pub since_step : SinceStep
since_step m before w d n = (
  λ s. since_step_at m before w d n s.0.later s.0.mark s.0.before s.0.whole s.1 s.2 s.3,
  elim [
    | inl b ↦ (record { later = []; mark = m; before = before; whole = refl }, b.0, b.1, tt)
    | inr k ↦
        let s = k.1 in (
          record { later = m ∷ s.0.later; mark = s.0.mark; before = s.0.before; whole = ap (λ xs. m ∷ xs) s.0.whole },
          s.1,
          s.2,
          (λ c. k.0 (same_begins m m (s.0.later ++ s.0.mark ∷ s.0.before) before w d refl (sym s.0.whole) c), s.3),
        )
  ],
)

no_since_at : (w d : ℕ) (later : List Mark) (mark : Mark) (rest : List Mark) → [] ≡ later ++ mark ∷ rest → ⊥
no_since_at w d [] mark rest e = cc
no_since_at w d (x ∷ later) mark rest e = cc

pub since_law : SinceLaw
since_law [] w d = (
  λ n s. absurd (no_since_at w d s.0.later s.0.mark s.0.before s.0.whole),
  λ h. absurd (none_held w d h.0 h.1),
)
since_law (m ∷ before) w d = (
  λ n s.
      elim ((since_step m before w d n).0 s) [
        | inl b ↦ rw ((begins_is m before w d).1 b.0) b.1
        | inr k ↦ rw (not_begins k.0) ((since_law before w d).0 n k.1)
      ],
  λ h.
      elim (cases_Bool (begins m before w d)) [
        | inl y ↦ rw y ((since_step m before w d (length before)).1 (inl ((begins_is m before w d).0 y, refl)))
        | inr f ↦ rw f ((since_step m before w d (since before w d)).1 (inr (no_begins f, (since_law before w d).1 (held_before f h))))
      ],
)
  where
    not_begins : ¬ Begins m before w d → begins m before w d ≡ false
    not_begins no_b = elim (cases_Bool (begins m before w d)) [ inl y ↦ absurd (no_b ((begins_is m before w d).0 y)) | inr f ↦ f ]

    no_begins : begins m before w d ≡ false → ¬ Begins m before w d
    no_begins f b = both_ways _ f ((begins_is m before w d).1 b)

    held_before : begins m before w d ≡ false → HoldsAny (m ∷ before) w d → HoldsAny before w d
    held_before f h =
        elim (cases_Bool (has_any (held before) w d)) [
          | inl y ↦ (held_any_law before w d).0 y
          | inr n ↦ absurd (no_begins f ((λ k. both_ways _ n ((held_any_law before w d).1 k)), h))
        ]
