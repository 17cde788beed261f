-- The results of calls of the service.
use Rattle.std.specs.Prelude.{ℕ, ◌≡◌, ◌-◌, Bool, true, false, List, Option, Some, None, Result, Ok, Err}
use Rattle.input_types.specs.declared.message.Message.{Message}
use Rattle.dispatch_calls.specs.declared.call.Call.{Call}
use Rattle.dispatch_calls.specs.declared.reply.Reply.{Reply}
use Rattle.dispatch_calls.specs.declared.reply.Reply.TheVariants.{Done, NotSpy, Taken}
use Rattle.dispatch_history.specs.Effect.{Effect}
use Rattle.dispatch_history.specs.History.{moment_of}
use Rattle.dispatch_history.specs.Legal.{answered}
use Rattle.dispatch_history.specs.Reply.{reply_to}
use Rattle.live_input.specs.declared.client.Seat.{Seat}
use Rattle.live_input.specs.declared.refused.FinishRefused.{FinishRefused}
use Rattle.live_input.specs.declared.refused.FinishRefused.TheVariants as finish
use Rattle.live_input.specs.declared.refused.PilferRefused.{PilferRefused}
use Rattle.live_input.specs.declared.refused.PilferRefused.TheVariants as pilfer
use Rattle.live_input.specs.Standing.{LiveIs}
use Rattle.live_input.specs.State.{LiveState}

-- a call succeeded
abbrev pub is_done : Reply → Bool
is_done Done = true
is_done answer = false

-- the current windows have no spy of the channel
abbrev pub is_no_spy : Reply → Bool
is_no_spy NotSpy = true
is_no_spy answer = false

-- args were accepted
abbrev pub is_taken : Reply → Bool
is_taken Taken = true
is_taken answer = false

-- a message as its client receives it: numbered from the first one for the client
abbrev pub for_client : Seat → Message → Message
for_client s m = record { seq = m.seq - s.before; moment = m.moment; body = m.body }

-- what a client gets from the reply to a receive
abbrev pub handed : Seat → Option Message → Option Message
handed s None = None
handed s (Some m) = Some (for_client s m)

-- The clients and the devices are the same, and so are the terms, what must still be handed in, and the single fingers of
-- panels.
pub record SameClients (old new : LiveState) : Type 0 where
  pub seats_are : new.seats ≡ old.seats
  pub opened_is : new.opened ≡ old.opened
  pub terms_are : new.terms ≡ old.terms
  pub devices_are : new.devices ≡ old.devices
  pub pending_is : new.pending ≡ old.pending
  pub fingers_are : new.fingers ≡ old.fingers

-- Everything but the history, the windows and the focus requests is the same.
pub record SameRest (old new : LiveState) : Type 0 where
  pub seats_are : new.seats ≡ old.seats
  pub opened_is : new.opened ≡ old.opened
  pub terms_are : new.terms ≡ old.terms
  pub devices_are : new.devices ≡ old.devices
  pub pending_is : new.pending ≡ old.pending
  pub fingers_are : new.fingers ≡ old.fingers
  pub reported_is : new.reported ≡ old.reported
  pub clock_is : new.clock ≡ old.clock

-- The clients are the same, and so are the terms and the single fingers of panels.
pub record SameSeats (old new : LiveState) : Type 0 where
  pub seats_are : new.seats ≡ old.seats
  pub opened_is : new.opened ≡ old.opened
  pub terms_are : new.terms ≡ old.terms
  pub fingers_are : new.fingers ≡ old.fingers

-- The call was made: the service stands for the history with it, and the clock is its moment.
abbrev pub Makes : List ℕ → List Effect → Call → LiveState → Type 0
Makes displays es call s = LiveIs displays (answered displays call es) s × (s.clock ≡ moment_of call)

-- The call was made, if the message could be finished or not. If memory runs out, nothing changes.
abbrev pub Finishes : List ℕ → List Effect → Call → Result (Unit {0}) FinishRefused → (old new : LiveState) → Type 0
Finishes displays es call (Ok done) old new =
    (is_done (reply_to es call) ≡ true) × Makes displays es call new
Finishes displays es call (Err finish.NotOpen) old new = ⊥
Finishes displays es call (Err finish.UnknownSeq) old new =
    (is_done (reply_to es call) ≡ false) × Makes displays es call new
Finishes displays es call (Err finish.Memory) old new = new ≡ old

-- The same holds after a pilfer, which also says why it was refused.
abbrev pub Pilfers : List ℕ → List Effect → Call → Result (Unit {0}) PilferRefused → (old new : LiveState) → Type 0
Pilfers displays es call (Ok done) old new = (is_done (reply_to es call) ≡ true) × Makes displays es call new
Pilfers displays es call (Err pilfer.NotOpen) old new = ⊥
Pilfers displays es call (Err pilfer.NotSpy) old new =
    (is_no_spy (reply_to es call) ≡ true) × Makes displays es call new
Pilfers displays es call (Err pilfer.NothingHeld) old new =
    (is_done (reply_to es call) ≡ false) × (is_no_spy (reply_to es call) ≡ false)
    × Makes displays es call new
Pilfers displays es call (Err pilfer.Memory) old new = new ≡ old
