-- How the caller settles a core that no lane calls any more.
use Rattle.std.specs.Prelude.{ℕ, ◌+◌, ◌==◌, ◌&&◌, Bool, [], ◌∷◌, if◌then◌else◌}
use Rattle.dispatch_calls.specs.declared.call.Call.{Call}
use Rattle.dispatch_calls.specs.declared.call.Call.TheVariants.{Pump, Tick, Receive, Finish}
use Rattle.dispatch_calls.specs.declared.reply.Reply.{Reply}
use Rattle.dispatch_calls.specs.declared.reply.Reply.TheVariants.{Idle, Got}
use Rattle.dispatch_history.specs.History.{History}

-- the state of the caller: it pumps next; it ticks next; it receives from this channel next; it first finishes a message of the channel; or
-- it made a call that was not due
pub data Settling : Type 0 where
  pumps_out : Settling
  looks : Settling
  receives_from : (channel : ℕ) → Settling
  owes_to : (channel seq : ℕ) → Settling
  strays : Settling

module _ (finishing : ℕ → Bool) where
  -- after an idle answer to a pump it ticks, after any other it pumps again
  abbrev pub after_pump : Reply → Settling
  after_pump Idle = looks
  after_pump reply = pumps_out

  -- after a message of a channel that finishes it finishes that, and receives from the channel until it gets none
  abbrev pub after_receive : ℕ → Reply → Settling
  after_receive c (Got m) = if finishing c then owes_to c m.seq else receives_from c
  after_receive c reply = receives_from (c + 1)

  -- one call, at moment 0
  abbrev pub settling_then : Settling → Call → Reply → Settling
  settling_then pumps_out (Pump now) reply = if now == 0 then after_pump reply else strays
  settling_then looks (Tick now) reply = if now == 0 then receives_from 1 else strays
  settling_then (receives_from c) (Receive d) reply = if d == c then after_receive c reply else strays
  settling_then (owes_to c seq) (Finish now d s) reply = if now == 0 && d == c && s == seq then receives_from c else strays
  settling_then stage call reply = strays

  -- where the caller stands after these calls, newest first
  abbrev pub settling : History → Settling
  settling [] = pumps_out
  settling (e ∷ h) = settling_then (settling h) e.0 e.1
