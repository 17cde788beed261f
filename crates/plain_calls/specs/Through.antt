-- Finishing every message of a client up to one, in terms of the service.
use Rattle.std.specs.Prelude.{◌≡◌, ℕ, true, false, List, Result, Err}
use Rattle.dispatch_history.specs.Effect.{Effect}
use Rattle.live_input.specs.declared.client.Client.{Client}
use Rattle.live_input.specs.declared.refused.FinishRefused.{FinishRefused}
use Rattle.live_input.specs.declared.refused.FinishRefused.TheVariants.{NotOpen}
use Rattle.live_input.specs.Answers.{SameClients}
use Rattle.live_input.specs.Seats.{is_open, seat_of, number_of}
use Rattle.live_input.specs.Standing.{LiveIs}
use Rattle.live_input.specs.declared.limit.Limited.{Limited}
use Rattle.live_input.specs.State.{latest}
use Rattle.live_input.specs.Through.{FinishesThrough}

-- the result of finishing every message up to one
pub record FinishedThrough (now : ℕ) (client : Client) (seq : ℕ) (old new : Limited) (r : Result (Unit {0}) FinishRefused) : Type 0 where
  pub wanted : new.wanted ≡ old.wanted
  pub stale : is_open old.live.seats client ≡ false → (r ≡ Err NotOpen) × (new.live ≡ old.live)
  pub after :
      (ds : List ℕ) (es : List Effect) → LiveIs ds es old.live → is_open old.live.seats client ≡ true
      → FinishesThrough ds (latest now old.live) client.channel (number_of (seat_of old.live.seats client.channel) seq) es r old.live new.live
  pub clients : SameClients old.live new.live
  pub named : new.live.reported ≡ old.live.reported
