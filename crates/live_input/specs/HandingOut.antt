-- The message that is received next, of the messages of all clients.
use Rattle.std.specs.Prelude.{ℕ, ◌≡◌, Bool, List, Option, Some, None, Result, Ok, Err}
use Rattle.std.specs.declared.alloc.AllocError.{AllocError}
use Rattle.input_types.specs.declared.message.Message.{Message}
use Rattle.dispatch_calls.specs.declared.call.Call.TheVariants.{Receive}
use Rattle.dispatch_history.specs.Effect.{Effect}
use Rattle.dispatch_history.specs.Reply.{reply_to}
use Rattle.dispatcher.specs.Access.{got}
use Rattle.live_input.specs.declared.client.Client.{Client}
use Rattle.live_input.specs.declared.next_any.First.{First}
use Rattle.live_input.specs.declared.next_any.Handed.{Handed}
use Rattle.live_input.specs.Answers.{handed}
use Rattle.live_input.specs.Order.{is_last, next_any}
use Rattle.live_input.specs.Receiving.{receives}
use Rattle.live_input.specs.Seats.{client_at, seat_of}
use Rattle.live_input.specs.Standing.{LiveIs}
use Rattle.live_input.specs.State.{LiveState}

-- a message, if there is one, with its client
abbrev pub handed_as : Client → (last : Bool) → Option Message → Option Handed
handed_as client last None = None
handed_as client last (Some m) = Some (record { client = client; message = m; last = last })

-- The message is the one that the client of the first channel receives next; the service then stands for the history
-- after that.
pub record Hands (displays : List ℕ) (es : List Effect) (h : Handed) (old new : LiveState) : Type 0 where
  pub first : First
  pub first_is : next_any es ≡ Some first
  pub client_is : client_at old.seats first.channel ≡ Some h.client
  pub message_is : handed (seat_of old.seats first.channel) (got (reply_to es (Receive first.channel))) ≡ Some h.message
  pub last_is : h.last ≡ is_last (receives displays es old first.channel) first
  pub is : LiveIs displays (receives displays es old first.channel) new

-- Nothing is received if no client has a message. If memory runs out, nothing changes.
abbrev pub HandsOut : List ℕ → List Effect → Result (Option Handed) AllocError → (old new : LiveState) → Type 0
HandsOut displays es (Ok None) old new = (next_any es ≡ None) × (new ≡ old)
HandsOut displays es (Ok (Some h)) old new = Hands displays es h old new
HandsOut displays es (Err error) old new = new ≡ old
