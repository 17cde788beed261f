-- How a touch state agrees with the marks of steps for its device.
use Rattle.std.specs.Prelude.{ℕ, ◌≡◌, List, ◌∷◌, length}
use Rattle.routing_rules.specs.Pairs.{has}
use Rattle.routing_rules.specs.Taking.{takes, pilfers}
use Rattle.routing_rules.specs.Marks.{Mark, held as held_by, since as since_by, pilfering as pilfering_by}
use Rattle.touch_state.specs.Touches.{Touches, since, pilfering, holds, Changes}

-- the state of device d says who holds what of it after these marks, since when, and who is pilfering it
pub record Agrees (t : Touches) (ms : List Mark) (d : ℕ) : Type 0 where
  pub hold : (w i : ℕ) → holds t w i ≡ has (held_by ms) w d i
  pub began : (w : ℕ) → since t w ≡ since_by ms w d
  pub pilfer : (w : ℕ) → pilfering t w ≡ pilfering_by ms w d

-- A state that agrees still does after a step, if it changes as the step's mark says, at the index of the step.
abbrev pub StepLaw : Type 0
StepLaw =
    (old new : Touches) (m : Mark) (before : List Mark) (d : ℕ)
    → Agrees old before d
    → Changes old new (λ w i. has m.given w d i) (λ w i. takes m.taken w d i) (length before) (λ w. pilfers m.taken w d)
    → Agrees new (m ∷ before) d
