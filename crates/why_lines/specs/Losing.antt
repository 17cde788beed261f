-- What a window loses.
use Rattle.std.specs.Prelude.{◌≡◌, ℕ, false, List, [], ◌∷◌}
use Rattle.dispatch_history.specs.Effect.{Effect}
use Rattle.dispatch_history.specs.Keys.{keys}
use Rattle.why_text.specs.Lost.{holds}

-- after the step the window holds nothing
pub record LosesAll (x : Effect) (before : List Effect) (w : ℕ) : Type 0 where
  pub no_ids : (d i : ℕ) → holds (x ∷ before) w d i ≡ false
  pub no_keys : keys (x ∷ before) w ≡ []
