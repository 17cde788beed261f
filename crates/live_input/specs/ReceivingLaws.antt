-- Proved facts about clients that finish by themselves.
use Rattle.std.specs.Prelude.{ℕ, ◌≡◌, ◌+◌, ◌^◌, ◌<◌, true, false, List, length, Some}
use Rattle.input_types.specs.declared.message.Message.{Message}
use Rattle.dispatch_calls.specs.declared.call.Call.TheVariants.{Receive}
use Rattle.dispatch_history.specs.Delivery.{is_finished}
use Rattle.dispatch_history.specs.Effect.{Effect, past_of}
use Rattle.dispatch_history.specs.Legal.{answered}
use Rattle.dispatch_history.specs.Reply.{reply_to}
use Rattle.dispatcher.specs.Access.{got}
use Rattle.live_input.specs.Receiving.{receives}
use Rattle.live_input.specs.Seats.{seat_of}
use Rattle.live_input.specs.Standing.{LiveIs}
use Rattle.live_input.specs.State.{LiveState}

-- After a client that finishes by itself received a message, that is finished, as long as the calls can be counted.
abbrev pub OwnFinishLaw : Type 0
OwnFinishLaw =
    (displays : List ℕ) (es : List Effect) (s : LiveState) (c : ℕ) (m : Message)
    → LiveIs displays es s → (seat_of s.seats c).options.finishes ≡ true → got (reply_to es (Receive c)) ≡ Some m
    → length es + 2 < 2 ^ 64 → is_finished (past_of (receives displays es s c)) c m.seq ≡ true

-- Another client only receives it.
abbrev pub OtherFinishLaw : Type 0
OtherFinishLaw =
    (displays : List ℕ) (es : List Effect) (s : LiveState) (c : ℕ)
    → (seat_of s.seats c).options.finishes ≡ false → receives displays es s c ≡ answered displays (Receive c) es
