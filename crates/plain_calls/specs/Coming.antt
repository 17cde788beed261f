-- Clients that come and go, in terms of the service.
use Rattle.std.specs.Prelude.{◌≡◌, ◌↔◌, ℕ, true, false, List, Result, Err, IfOk, OnErr}
use Rattle.dispatch_history.specs.Effect.{Effect}
use Rattle.live_input.specs.declared.client.Client.{Client}
use Rattle.live_input.specs.declared.options.Options.{Options}
use Rattle.live_input.specs.declared.refused.CloseRefused.{CloseRefused}
use Rattle.live_input.specs.declared.refused.CloseRefused.TheVariants.{NotOpen}
use Rattle.live_input.specs.declared.refused.OpenRefused.{OpenRefused}
use Rattle.live_input.specs.declared.refused.OpenRefused.TheVariants.{Full}
use Rattle.live_input.specs.LimitedCalls.{ClosesEased}
use Rattle.live_input.specs.Opening.{OpensWith, OpensOn}
use Rattle.live_input.specs.Seats.{is_open, is_full}
use Rattle.live_input.specs.Standing.{LiveIs}
use Rattle.live_input.specs.declared.limit.Limited.{Limited}
use Rattle.live_input.specs.State.{latest}

-- the result of an opening with options
pub record Opened (options : Options) (old new : Limited) (r : Result Client OpenRefused) : Type 0 where
  pub wanted : new.wanted ≡ old.wanted
  pub full : (r ≡ Err Full) ↔ (is_full old.live.seats ≡ true)
  pub seat : IfOk r (λ client. OpensWith options client old.live new.live)
  pub after : (ds : List ℕ) (es : List Effect) → LiveIs ds es old.live → IfOk r (λ client. OpensOn ds es client old.live new.live)
  pub err : OnErr r (new.live ≡ old.live)

-- the result of a closing
pub record Closed (now : ℕ) (client : Client) (old new : Limited) (r : Result (Unit {0}) CloseRefused) : Type 0 where
  pub stale : is_open old.live.seats client ≡ false → (r ≡ Err NotOpen) × (new ≡ old)
  pub after :
      (ds : List ℕ) (es : List Effect) → LiveIs ds es old.live → is_open old.live.seats client ≡ true
      → ClosesEased ds (latest now old.live) client es r old new
  pub named : OnErr r (new.live.reported ≡ old.live.reported)
