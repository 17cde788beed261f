-- Numbers of a finger that are passed on unchanged.
use Rattle.std.specs.Prelude.{◌≡◌, ℤ, Result}
use Rattle.std.proofs.Common.{subst}
use Rattle.live_input.specs.declared.slots.Fingers.{Fingers}
use Rattle.live_input.specs.declared.refused.FingerRefused.{FingerRefused}
use Rattle.live_input.specs.Fingers.{Planned}

-- what holds of a plan with three numbers holds of it with three that are equal
pub planned_with :
    (P : (Fingers → Result Planned FingerRefused) → Type 0) (plan : Fingers → (id x y : ℤ) → Result Planned FingerRefused)
    (id₁ id x₁ x y₁ y : ℤ) → id₁ ≡ id → x₁ ≡ x → y₁ ≡ y → P (λ f. plan f id₁ x₁ y₁) → P (λ f. plan f id x y)
planned_with P plan id₁ id x₁ x y₁ y same_id same_x same_y h =
    subst (λ v. P (λ f. plan f id x v)) same_y
    (subst (λ v. P (λ f. plan f id v y₁)) same_x
    (subst (λ v. P (λ f. plan f v x₁ y₁)) same_id h))
