-- What lies over a window: where it is found, how it grows, and when there is nothing.
use Rattle.std.proofs.Common.{ℕ, Bool, true, false, ◌&&◌, ◌||◌, ◌==◌, IsTrue, ◌≡◌, ◌↔◌, ◌⊎◌, inl, inr, if◌then◌else◌, List, [], ◌∷◌, refl, sym, ◌∙◌}
use Rattle.std.proofs.lemmas.Bool.{and_parts, and_from, or_cases, or_left, or_right, true≢false, both_ways}
use Rattle.routing_rules.specs.Pairs.{Pair, has, has_any}
use Rattle.routing_rules.specs.Cover.{Cover, both}
use Rattle.routing_rules.specs.Marks.{Mark, held, covered}
use Rattle.routing_rules.specs.Places.{HoldsAny, IsUnder}
use Rattle.routing_rules.specs.Laws.{CoverLaw, CoverGrows, CoverBegins}
use Rattle.routing_rules.proofs.HoldingLaws.{holds_step, held_any_law, none_held}
use Rattle.routing_rules.proofs.PilferingLaws.{since_step, since_holds}

-- a window that has a pair has some pair
pair_any : (qs : List Pair) (w d i : ℕ) → has qs w d i ≡ true → has_any qs w d ≡ true
pair_any [] w d i h = absurd (true≢false (sym h))
pair_any (q ∷ qs) w d i h =
    elim (or_cases (q.window == w && q.device == d && q.id == i) (has qs w d i) h) [
      | inl t ↦ or_left _ (has_any qs w d) (and_parts (q.window == w && q.device == d) (q.id == i) t).0
      | inr t ↦ or_right (q.window == w && q.device == d) (has_any qs w d) (pair_any qs w d i t)
    ]

-- a window that holds something, and is given nothing at the last step, held something before it
held_before : (m : Mark) (before : List Mark) (w d : ℕ) → has_any m.given w d ≡ false → HoldsAny (m ∷ before) w d → HoldsAny before w d
held_before m before w d none h =
    elim ((holds_step m before w d h.0).0 h.1) [
      | inl g ↦ absurd (both_ways (has_any m.given w d) none (pair_any m.given w d h.0 g))
      | inr s ↦ (h.0, s.0)
    ]

-- the bit of a cover that the test reads
abbrev IsBit : (Cover → Bool) → Type 0
IsBit test = (a b : Cover) → test (both a b) ≡ (test a || test b)

-- it is found at a step since the window began to hold something
under_law : (test : Cover → Bool) → IsBit test → (ms : List Mark) (w d : ℕ) → HoldsAny ms w d
    → IsTrue (test (covered ms w d)) ↔ IsUnder test ms w d
under_law test bit [] w d h = absurd (none_held w d h.0 h.1)
under_law test bit (m ∷ before) w d h = by_given (has_any m.given w d) refl (has_any (held before) w d) refl (λ b. under_law test bit before w d b)
  where
    after : IsUnder test (m ∷ before) w d ↔ (HoldsAny (m ∷ before) w d × (IsTrue (has_any m.given w d && test (m.cover w)) ⊎ IsUnder test before w d))
    after = since_step (λ k. has_any k.given w d && test (k.cover w)) m before w d

    by_given : (g : Bool) → has_any m.given w d ≡ g → (b : Bool) → has_any (held before) w d ≡ b
        → (HoldsAny before w d → IsTrue (test (covered before w d)) ↔ IsUnder test before w d)
        → IsTrue (test (if g then (if b then both (m.cover w) (covered before w d) else m.cover w) else covered before w d)) ↔ IsUnder test (m ∷ before) w d
    by_given true g true b earlier = (
      λ t.
          after.1 (
            h,
            elim (or_cases (test (m.cover w)) (test (covered before w d)) (sym (bit (m.cover w) (covered before w d)) ∙ t)) [
              | inl now ↦ inl (and_from (has_any m.given w d) (test (m.cover w)) g now)
              | inr old ↦ inr ((earlier ((held_any_law before w d).0 b)).0 old)
            ],
          ),
      λ u.
          bit (m.cover w) (covered before w d)
          ∙ elim (after.0 u).1 [
            | inl now ↦ or_left (test (m.cover w)) (test (covered before w d)) (and_parts (has_any m.given w d) (test (m.cover w)) now).1
            | inr old ↦ or_right (test (m.cover w)) (test (covered before w d)) ((earlier ((held_any_law before w d).0 b)).1 old)
          ],
    )
    by_given true g false b earlier = (
      λ t. after.1 (h, inl (and_from (has_any m.given w d) (test (m.cover w)) g t)),
      λ u.
          elim (after.0 u).1 [
            | inl now ↦ (and_parts (has_any m.given w d) (test (m.cover w)) now).1
            | inr old ↦
                absurd (both_ways (has_any (held before) w d) b
                ((held_any_law before w d).1 (since_holds (λ k. has_any k.given w d && test (k.cover w)) before w d old)))
          ],
    )
    by_given false g b e earlier = (
      λ t. after.1 (h, inr ((earlier (held_before m before w d g h)).0 t)),
      λ u.
          elim (after.0 u).1 [
            | inl now ↦ absurd (both_ways (has_any m.given w d) g (and_parts (has_any m.given w d) (test (m.cover w)) now).0)
            | inr old ↦ (earlier (held_before m before w d g h)).1 old
          ],
    )

pub cover_law : CoverLaw
cover_law ms w d h = (under_law (λ c. c.obscured) (λ a b. refl) ms w d h, under_law (λ c. c.partly) (λ a b. refl) ms w d h)

-- a bit that was set stays set
grows : (test : Cover → Bool) → IsBit test → (m : Mark) (before : List Mark) (w d : ℕ) → has_any (held before) w d ≡ true
    → test (covered before w d) ≡ true → test (covered (m ∷ before) w d) ≡ true
grows test bit m before w d h t = by_given (has_any m.given w d) (has_any (held before) w d) h
  where
    by_given : (g b : Bool) → b ≡ true
        → test (if g then (if b then both (m.cover w) (covered before w d) else m.cover w) else covered before w d) ≡ true
    by_given true true e = bit (m.cover w) (covered before w d) ∙ or_right (test (m.cover w)) (test (covered before w d)) t
    by_given true false e = absurd (true≢false (sym e))
    by_given false b e = t

pub cover_grows : CoverGrows
cover_grows m before w d h = (grows (λ c. c.obscured) (λ a b. refl) m before w d h, grows (λ c. c.partly) (λ a b. refl) m before w d h)

pub cover_begins : CoverBegins
cover_begins m before w d g h = by_given (has_any m.given w d) (has_any (held before) w d) g h
  where
    by_given : (g b : Bool) → g ≡ true → b ≡ false
        → (if g then (if b then both (m.cover w) (covered before w d) else m.cover w) else covered before w d) ≡ m.cover w
    by_given true false e f = refl
    by_given true true e f = absurd (true≢false f)
    by_given false b e f = absurd (true≢false (sym e))
