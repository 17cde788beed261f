-- Which keys are down on devices, in terms of the service.
use Rattle.std.specs.Prelude.{ℕ, List, Option}
use Rattle.dispatch_history.specs.Effect.{Effect, past_of}
use Rattle.dispatch_history.specs.Queue.{down_on}
use Rattle.dispatcher.specs.Down.{IsFirstDown}
use Rattle.live_input.specs.Standing.{LiveIs}
use Rattle.live_input.specs.State.{LiveState}

-- the first key that is down on a device, from a scan code on
abbrev pub IsFirstKey : LiveState → (device from : ℕ) → Option ℕ → Type 0
IsFirstKey s d from r = (ds : List ℕ) (es : List Effect) → LiveIs ds es s → IsFirstDown (down_on (past_of es) d).keys from r
