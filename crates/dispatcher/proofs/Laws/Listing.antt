-- What windows hold is listed in the last motion of its device.
use Rattle.std.proofs.Common.{◌≡◌, ℕ, ◌==◌, ◌||◌, Bool, true, false, cond, List, [], ◌∷◌, filter, refl, sym, ap, ◌∙◌, subst, inl, inr}
use Rattle.std.specs.List.{list_any}
use Rattle.std.proofs.lemmas.Bool.{cases_Bool, eqb-true, or_cases}
use Rattle.input_types.specs.declared.pointer.Pointer.{Pointer}
use Rattle.input_types.specs.Gestures.{ids_of}
use Rattle.routing_rules.specs.Scene.{Scene}
use Rattle.routing_rules.specs.Fits.{Fits}
use Rattle.dispatch_history.specs.Effect.{past_of, down_ids}
use Rattle.dispatch_history.specs.Step.{scene}
use Rattle.dispatch_history.proofs.FitLaws.{fit_law}
use Rattle.dispatcher.specs.Laws.{ListedLaw}

skip : (b r : Bool) → r ≡ true → (b || r) ≡ true
skip true r e = refl
skip false r e = e

-- an id that is in a list and passes is among those that pass
passes : (f : ℕ → Bool) (i : ℕ) (xs : List ℕ) → f i ≡ true → list_any (λ j. j == i) xs ≡ true → list_any (λ j. j == i) (filter f xs) ≡ true
passes f i [] e h = h
passes f i (x ∷ xs) e h =
    elim (cases_Bool (x == i)) [
      | inl y ↦
          ap (λ b. list_any (λ j. j == i) (cond b (x ∷ filter f xs) (filter f xs))) (ap f (eqb-true x i y) ∙ e)
          ∙ ap (λ b. b || list_any (λ j. j == i) (filter f xs)) y
      | inr n ↦ skips (f x) (passes f i xs e (sym (ap (λ b. b || list_any (λ j. j == i) xs) n) ∙ h))
    ]
  where
    skips : (b : Bool) → list_any (λ j. j == i) (filter f xs) ≡ true
        → list_any (λ j. j == i) (cond b (x ∷ filter f xs) (filter f xs)) ≡ true
    skips true r = skip (x == i) (list_any (λ j. j == i) (filter f xs)) r
    skips false r = r

-- what passes is in the list
in_whole : (f : ℕ → Bool) (i : ℕ) (xs : List ℕ) → list_any (λ j. j == i) (filter f xs) ≡ true → list_any (λ j. j == i) xs ≡ true
in_whole f i [] h = h
in_whole f i (x ∷ xs) h = by_pass (f x) (in_whole f i xs) h
  where
    by_pass : (b : Bool) → (list_any (λ j. j == i) (filter f xs) ≡ true → list_any (λ j. j == i) xs ≡ true)
        → list_any (λ j. j == i) (cond b (x ∷ filter f xs) (filter f xs)) ≡ true → list_any (λ j. j == i) (x ∷ xs) ≡ true
    by_pass true more h =
        elim (or_cases (x == i) (list_any (λ j. j == i) (filter f xs)) h) [
          | inl y ↦ ap (λ b. b || list_any (λ j. j == i) xs) y
          | inr r ↦ skip (x == i) (list_any (λ j. j == i) xs) (more r)
        ]
    by_pass false more h = skip (x == i) (list_any (λ j. j == i) xs) (more h)

by_ids : (i : ℕ) (ps : List Pointer) → list_any (λ j. j == i) (ids_of ps) ≡ list_any (λ p. p.id == i) ps
by_ids i [] = refl
by_ids i (p ∷ ps) = ap (λ b. p.id == i || b) (by_ids i ps)

-- in a scene that fits the ids that are down, all that is held is listed
pub fits_listed : (s : Scene) (d : ℕ) (down : List ℕ) → Fits s d down → (w i : ℕ) → s.holds w d i ≡ true → list_any (λ p. p.id == i) (s.last d) ≡ true
fits_listed s d down f w i h =
    sym (by_ids i (s.last d))
    ∙ in_whole (s.holds w d) i (ids_of (s.last d))
    (subst (λ xs. list_any (λ j. j == i) xs ≡ true) (sym (f.held_is_listed w)) (passes (s.holds w d) i down h (f.held_is_down w i h)))

pub listed_law : ListedLaw
listed_law ds es d l r =
    fits_listed (scene ds es) d (down_ids es d)
    (subst (λ xs. Fits (scene ds xs) d (down_ids xs d)) l.whole (fit_law ds (past_of es) d l.legal r))
