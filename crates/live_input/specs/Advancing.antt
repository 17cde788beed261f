-- What is due up to a time.
use Rattle.std.specs.Prelude.{ℕ, ◌≡◌, ◌||◌, List, None}
use Rattle.window_snapshot.specs.Mask.{mask_has}
use Rattle.dispatch_calls.specs.declared.call.Call.{Call}
use Rattle.dispatch_history.specs.Effect.{Effect}
use Rattle.dispatch_history.specs.Ordered.{extend}
use Rattle.live_input.specs.Settling.{Follows, next_due, is_reported_in}
use Rattle.live_input.specs.Standing.{LiveIs}
use Rattle.live_input.specs.State.{LiveState}

-- Some of what is due up to now was done, in order; the channels that it reported are recorded with those before.
pub record Advances (displays : List ℕ) (now : ℕ) (es : List Effect) (old new : LiveState) : Type 0 where
  pub calls : List Call
  pub follows : Follows (next_due now) displays es calls
  pub is : LiveIs displays (extend displays es calls) new
  pub reported_are : (c : ℕ) → mask_has new.reported c ≡ (mask_has old.reported c || is_reported_in displays es calls c)

-- All of it was done, and the mask contains exactly the channels that were reported by it, or before it without being
-- returned.
pub record Advanced (displays : List ℕ) (now : ℕ) (es : List Effect) (mask : ℕ) (old new : LiveState) : Type 0 where
  pub calls : List Call
  pub follows : Follows (next_due now) displays es calls
  pub done : next_due now (extend displays es calls) ≡ None
  pub is : LiveIs displays (extend displays es calls) new
  pub reported_are : (c : ℕ) → mask_has mask c ≡ (mask_has old.reported c || is_reported_in displays es calls c)
  pub outgoing : new.reported ≡ 0
