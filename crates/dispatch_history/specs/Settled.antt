-- A history after which there is nothing left to do.
use Rattle.std.specs.Prelude.{ℕ, ◌≡◌, ◌<◌, Bool, true, false, IsTrue, IfSome, List, [], ◌∷◌, length}
use Rattle.dispatch_calls.specs.declared.call.Call.{Call}
use Rattle.dispatch_calls.specs.declared.call.Call.TheVariants.{Pump, Tick}
use Rattle.dispatch_history.specs.History.{History, clock, live, received, finished}
use Rattle.dispatch_history.specs.Queue.{inbound}
use Rattle.dispatch_history.specs.Effects.{effects}
use Rattle.dispatch_history.specs.Delivery.{published}
use Rattle.dispatch_history.specs.KeySent.{repeat_due}

-- a tick counts until the next pump
abbrev pub ticked_after : Call → Bool → Bool
ticked_after (Tick now) before = true
ticked_after (Pump now) before = false
ticked_after call before = before

-- there is a tick with no pump after it
abbrev pub ticked : History → Bool
ticked [] = false
ticked (e ∷ h) = ticked_after e.0 (ticked h)

-- no args wait, no repeat is due, a tick came after the last pump, each live channel has received all its published
-- messages, and each live channel of the set has finished all that it received
pub record Settled (displays : List ℕ) (h : History) (finishing : ℕ → Bool) : Type 0 where
  pub idle : inbound h ≡ []
  pub no_repeat : IfSome (repeat_due (effects displays h)) (λ t. clock h < t)
  pub looked : IsTrue (ticked h)
  pub taken : (c : ℕ) → live h c ≡ true → received h c ≡ published (effects displays h) c
  pub done : (c : ℕ) → live h c ≡ true → finishing c ≡ true → length (finished h c) ≡ received h c
