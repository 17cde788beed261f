-- The effects that what is kept can stand for.
use Rattle.std.specs.Prelude.{◌≡◌, ℕ, List}
use Rattle.dispatch_history.specs.Effect.{Effect, past_of}
use Rattle.dispatch_history.specs.Effects.{effects}
use Rattle.dispatch_history.specs.Legal.{Legal}

-- effects of a legal history
pub record Lawful (displays : List ℕ) (es : List Effect) : Type 0 where
  pub legal : Legal displays (past_of es)
  pub whole : effects displays (past_of es) ≡ es
