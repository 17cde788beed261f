-- The next message of any client, in terms of the service.
use Rattle.std.specs.Prelude.{◌≡◌, ℕ, List, Option, None, Result, Ok, Err, OnErr, IsOk}
use Rattle.std.specs.declared.alloc.AllocError.{AllocError}
use Rattle.dispatch_history.specs.Effect.{Effect}
use Rattle.dispatcher.specs.Memory.{MayCount}
use Rattle.live_input.specs.declared.client.Seat.{Seat}
use Rattle.live_input.specs.declared.next_any.Handed.{Handed}
use Rattle.live_input.specs.Answers.{SameClients}
use Rattle.live_input.specs.HandingOut.{HandsOut}
use Rattle.live_input.specs.Standing.{LiveIs}
use Rattle.live_input.specs.declared.limit.Limited.{Limited}
use Rattle.plain_calls.specs.declared.client.PlainClient.{PlainClient}
use Rattle.plain_calls.specs.declared.message.PlainMessage.{PlainMessage}
use Rattle.plain_calls.specs.Calling.{answer_status}
use Rattle.plain_calls.specs.Clients.{plain_client}
use Rattle.plain_calls.specs.Numbers.{flag}
use Rattle.plain_calls.specs.Status as status
use Rattle.plain_calls.specs.Told.{told_to}

-- the result of receiving the next message of any client
pub record ReceivedAny (old new : Limited) (r : Result (Option Handed) AllocError) : Type 0 where
  pub wanted : new.wanted ≡ old.wanted
  pub hands : (ds : List ℕ) (es : List Effect) → LiveIs ds es old.live → HandsOut ds es r old.live new.live
  pub clients : SameClients old.live new.live
  pub named : new.live.reported ≡ old.live.reported
  pub clock : new.live.clock ≡ old.live.clock
  pub err : OnErr r (new.live ≡ old.live)
  pub calm : (ds : List ℕ) (es : List Effect) → LiveIs ds es old.live → MayCount es → IsOk r

-- the status of that
abbrev pub any_status : Result (Option Handed) AllocError → ℕ
any_status (Ok h) = answer_status h
any_status (Err error) = status.no_memory

-- what is received, if anything is
abbrev pub handed_in : Result (Option Handed) AllocError → Option Handed
handed_in (Ok h) = h
handed_in (Err error) = None

-- the client that it is handed to
abbrev pub plain_owner : Handed → PlainClient
plain_owner h = plain_client h.client

-- its message, in plain numbers, with the number that the client was opened with
abbrev pub plain_told : List Seat → Handed → PlainMessage
plain_told seats h = told_to seats h.client h.message

-- 1 if the next message is of another step, otherwise 0
abbrev pub plain_last : Handed → ℕ
plain_last h = flag h.last
