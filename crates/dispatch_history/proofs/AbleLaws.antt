-- Who is unresponsive after a step.
use Rattle.std.proofs.Common.{◌≡◌, Bool, true, false, not, ◌&&◌, ◌||◌, ◌∷◌, refl, ap, ◌∙◌}
use Rattle.dispatch_history.specs.History.{live}
use Rattle.dispatch_history.specs.Delivery.{unresponsive, reports, finishes, has_late}
use Rattle.dispatch_history.specs.Laws.{UnresponsiveStep, AbleStep}

ends_or_stays : (u f l : Bool) → elim u as (λ _. Bool) [ false ↦ false | true ↦ elim f as (λ _. Bool) [ false ↦ true | true ↦ l ] ] ≡ (u && not (f && not l))
ends_or_stays false f l = refl
ends_or_stays true false l = refl
ends_or_stays true true false = refl
ends_or_stays true true true = refl

pub unresponsive_step : UnresponsiveStep
unresponsive_step x before c =
    ap (λ b. reports x.past c || b) (ends_or_stays (unresponsive before c) (finishes x.past c) (has_late (x ∷ before) c))

-- if a channel was not unresponsive, and if a step is no finish of it
never_before : (n u f l : Bool) → u ≡ false → (n || u && not (f && not l)) ≡ n
never_before true u f l e = refl
never_before false u f l e = ap (λ b. b && not (f && not l)) e

no_finish : (n u f l : Bool) → f ≡ false → (n || u && not (f && not l)) ≡ (n || u)
no_finish n u f l e = ap (λ b. n || u && not (b && not l)) e ∙ ap (λ b. n || b) (and_true u)
  where
    and_true : (b : Bool) → (b && true) ≡ b
    and_true true = refl
    and_true false = refl

pub able_step : AbleStep
able_step x before c = (
  λ e.
      ap (λ b. live x.past c && not b)
      (unresponsive_step x before c ∙ never_before (reports x.past c) (unresponsive before c) (finishes x.past c) (has_late (x ∷ before) c) e),
  λ e.
      ap (λ b. live x.past c && not b)
      (unresponsive_step x before c ∙ no_finish (reports x.past c) (unresponsive before c) (finishes x.past c) (has_late (x ∷ before) c) e),
)
