-- What is released after a call.
use Rattle.std.specs.Prelude.{ℕ, ◌≡◌, ◌≤◌, Bool, true, false, List, length, Option, Some, None}
use Rattle.focus_resolver.specs.Resolver.{is_at}
use Rattle.dispatch_calls.specs.declared.call.Call.{Call}
use Rattle.dispatch_calls.specs.declared.call.Call.TheVariants.{Receive, Tick}
use Rattle.dispatch_history.specs.Due.{anrs}
use Rattle.dispatch_history.specs.Effect.{Effect, past_of}
use Rattle.dispatch_history.specs.History.{live, received}
use Rattle.dispatcher.specs.Access.{gone, is_opened, anrs_released}
use Rattle.dispatcher.specs.Dispatching.{Dispatching}

-- the channel from which a call receives, if it does
abbrev pub receives_from : Call → Option ℕ
receives_from (Receive c) = Some c
receives_from call = None

-- the call is a tick
abbrev pub is_tick : Call → Bool
is_tick (Tick now) = true
is_tick call = false

-- what was received is released, except that of one channel, and all ANRs are, unless there are new ones
pub record AreReleasedBut (from : Option ℕ) (ticks : Bool) (es : List Effect) (d : Dispatching) : Type 0 where
  pub messages_are : (c : ℕ) → 1 ≤ c → is_at from c ≡ false → gone d c ≡ received (past_of es) c
  pub anrs_are : ticks ≡ false → anrs_released d ≡ length (anrs es)

-- a channel, if it is one, is live
abbrev pub IsLiveChannel : Option ℕ → List Effect → Type 0
IsLiveChannel None es = Unit {0}
IsLiveChannel (Some c) es = (1 ≤ c) × (is_opened es c ≡ true) × (live (past_of es) c ≡ true)
