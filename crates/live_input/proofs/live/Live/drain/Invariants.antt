use Rattle.std.proofs.Common.{◌≡◌, ℕ, List}
use Rattle.dispatch_history.specs.Effect.{Effect}
use Rattle.live_input.specs.Answers.{SameRest}
use Rattle.live_input.specs.Seats.{IsHeld}
use Rattle.live_input.specs.Settling.{Reaches, next_left}
use Rattle.live_input.specs.Standing.{LiveIs}
use Rattle.live_input.proofs.live.Live.drain.Given as goal

-- some of what was left was done
abbrev pub invariant-loop : goal.invariant-loop
invariant-loop l =
    record {
      reaches : (ds : List ℕ) (es : List Effect) → LiveIs ds es l.initial.self → IsHeld l.channel l.initial.self.seats → Reaches ds (next_left l.now l.channel) es l.self;
      rest : SameRest l.initial.self l.self;
      windows : l.self.windows ≡ l.initial.self.windows;
      requests : l.self.requested ≡ l.initial.self.requested;
    }
