-- What clients receive and finish, in terms of the service.
use Rattle.std.specs.Prelude.{◌≡◌, ◌+◌, ◌&&◌, ℕ, true, false, List, Option, None, Result, Ok, Err, IfOk, IfSome, OnOk, OnErr, IsOk, is_some}
use Rattle.std.specs.declared.alloc.AllocError.{AllocError}
use Rattle.input_types.specs.declared.message.Message.{Message}
use Rattle.window_snapshot.specs.Mask.{mask_has, is_channel}
use Rattle.dispatch_calls.specs.declared.call.Call.TheVariants.{Receive, Finish, Pilfer}
use Rattle.dispatch_history.specs.Effect.{Effect, past_of}
use Rattle.dispatch_history.specs.History.{received}
use Rattle.dispatch_history.specs.Legal.{answered}
use Rattle.dispatch_history.specs.Reply.{reply_to}
use Rattle.dispatcher.specs.Access.{gone, got}
use Rattle.dispatcher.specs.Memory.{MayCount}
use Rattle.live_input.specs.declared.client.Client.{Client}
use Rattle.live_input.specs.declared.refused.FinishRefused.{FinishRefused}
use Rattle.live_input.specs.declared.refused.FinishRefused.TheVariants as finish
use Rattle.live_input.specs.declared.refused.PilferRefused.{PilferRefused}
use Rattle.live_input.specs.declared.refused.PilferRefused.TheVariants as pilfer
use Rattle.live_input.specs.Answers.{SameClients, Finishes, Pilfers, handed}
use Rattle.live_input.specs.Receiving.{receives}
use Rattle.live_input.specs.Seats.{is_open, seat_of, number_of}
use Rattle.live_input.specs.Standing.{LiveIs}
use Rattle.live_input.specs.declared.limit.Limited.{Limited}
use Rattle.live_input.specs.LimitedCalls.{ReportsChoked}
use Rattle.live_input.specs.Easing.{EasedFirst, KeepsReported}
use Rattle.live_input.specs.State.{LiveState, latest}
use Rattle.live_input.specs.Outgoing.{taken}

-- the result of receiving the next message of a client
pub record Received (client : Client) (old new : Limited) (r : Result (Option Message) AllocError) : Type 0 where
  pub wanted : new.wanted ≡ old.wanted
  pub stale : is_open old.live.seats client ≡ false → (r ≡ Ok None) × (new.live ≡ old.live)
  pub message :
      (ds : List ℕ) (es : List Effect) → LiveIs ds es old.live → is_open old.live.seats client ≡ true
      → IfOk r (λ m. m ≡ handed (seat_of old.live.seats client.channel) (got (reply_to es (Receive client.channel))))
  pub after :
      (ds : List ℕ) (es : List Effect) → LiveIs ds es old.live → is_open old.live.seats client ≡ true
      → OnOk r (LiveIs ds (receives ds es old.live client.channel) new.live)
  pub numbers :
      (ds : List ℕ) (es : List Effect) → LiveIs ds es old.live → is_open old.live.seats client ≡ true
      → IfOk r (λ told. IfSome told (λ m. m.seq ≡ taken (seat_of old.live.seats client.channel) es client.channel + 1))
  pub kept :
      (ds : List ℕ) (es : List Effect) → LiveIs ds es old.live → is_open old.live.seats client ≡ true
      → OnOk r (gone new.live.dispatcher client.channel ≡ received (past_of (answered ds (Receive client.channel) es)) client.channel)
  pub clients : SameClients old.live new.live
  pub named : new.live.reported ≡ old.live.reported
  pub clock : new.live.clock ≡ old.live.clock
  pub err : OnErr r (new.live ≡ old.live)
  pub calm : (ds : List ℕ) (es : List Effect) → LiveIs ds es old.live → MayCount es → IsOk r

-- the result of finishing a message
pub record Finished (now : ℕ) (client : Client) (seq : ℕ) (old new : Limited) (r : Result (Unit {0}) FinishRefused) : Type 0 where
  pub wanted : new.wanted ≡ old.wanted
  pub stale : is_open old.live.seats client ≡ false → (r ≡ Err finish.NotOpen) × (new.live ≡ old.live)
  pub after :
      (ds : List ℕ) (es : List Effect) → LiveIs ds es old.live → is_open old.live.seats client ≡ true
      → Finishes ds es (Finish (latest now old.live) client.channel (number_of (seat_of old.live.seats client.channel) seq)) r old.live new.live
  pub clients : SameClients old.live new.live
  pub named : new.live.reported ≡ old.live.reported
  pub calm : (ds : List ℕ) (es : List Effect) → LiveIs ds es old.live → MayCount es → r ≡ Err finish.Memory → ⊥

-- the result of a pilfer
pub record Pilfered (now : ℕ) (client : Client) (device : ℕ) (old new : Limited) (r : Result (Unit {0}) PilferRefused) : Type 0 where
  pub stale : is_open old.live.seats client ≡ false → (r ≡ Err pilfer.NotOpen) × (new ≡ old)
  pub after :
      (ds : List ℕ) (es : List Effect) → LiveIs ds es old.live → is_open old.live.seats client ≡ true
      → EasedFirst ds (latest now old.live) es old new (r ≡ Err pilfer.Memory)
      (λ fs eased. Pilfers ds fs (Pilfer (latest now old.live) client.channel device) r eased.live new.live × (new.wanted ≡ eased.wanted))
  pub clients : SameClients old.live new.live
  pub named : KeepsReported old.live.reported new.live.reported
  pub reports : (ds : List ℕ) (es : List Effect) → LiveIs ds es old.live → ReportsChoked old new

-- a mask of the channels that have a message for their client
abbrev pub AreWaiting : LiveState → ℕ → Type 0
AreWaiting s mask =
    (ds : List ℕ) (es : List Effect) → LiveIs ds es s → (c : ℕ)
    → mask_has mask c ≡ (is_channel c && is_some (got (reply_to es (Receive c))))
