-- What a receive of a client comes to.
use Rattle.std.specs.Prelude.{ℕ, ◌≡◌, ◌-◌, ◌^◌, Bool, true, nat_lt, List, length, Option, Some, None}
use Rattle.input_types.specs.declared.message.Message.{Message}
use Rattle.dispatch_calls.specs.declared.call.Call.{Call}
use Rattle.dispatch_calls.specs.declared.call.Call.TheVariants.{Finish, Receive}
use Rattle.dispatch_history.specs.Effect.{Effect}
use Rattle.dispatch_history.specs.Legal.{answered}
use Rattle.dispatch_history.specs.Reply.{reply_to}
use Rattle.dispatcher.specs.Access.{got}
use Rattle.dispatcher.specs.Memory.{IsCalm}
use Rattle.live_input.specs.declared.client.Seat.{Seat}
use Rattle.live_input.specs.Seats.{seat_of}
use Rattle.live_input.specs.Standing.{IsOfHeld, is_plain}
use Rattle.live_input.specs.State.{LiveState}

-- one more call can be counted in 64 bits
abbrev pub may_count : List Effect → Bool
may_count es = nat_lt (length es) (2 ^ 64 - 1)

-- a client that finishes by itself finishes the message that it received, if one more call can be counted
abbrev pub own_finish : (finishes counted : Bool) → (now channel : ℕ) → Option Message → Option Call
own_finish true true now c (Some m) = Some (Finish now c m.seq)
own_finish finishes counted now c m = None

-- a call is made, if there is one
abbrev pub with_call : List ℕ → Option Call → List Effect → List Effect
with_call displays None es = es
with_call displays (Some call) es = answered displays call es

-- The client of a seat receives its next message, if there is one; and finishes it at once, at the clock, if it finishes
-- by itself.
abbrev pub receiving : List ℕ → Seat → (now channel : ℕ) → List Effect → List Effect
receiving displays s now c es =
    let after = answered displays (Receive c) es in
    with_call displays (own_finish s.options.finishes (may_count after) now c (got (reply_to es (Receive c)))) after

-- the history after the client of a channel received its next message
abbrev pub receives : List ℕ → List Effect → LiveState → (channel : ℕ) → List Effect
receives displays es s c = receiving displays (seat_of s.seats c) s.clock c es

-- a call that an open client may make, and that needs no memory
pub record IsEasy (seats : List Seat) (call : Call) : Type 0 where
  pub plain : is_plain call ≡ true
  pub own : IsOfHeld seats call
  pub calm : (es : List Effect) → IsCalm es call
