use Rattle.std.proofs.Common.{◌≡◌, ℕ, List, length}
use Rattle.dispatch_history.specs.Effect.{Effect}
use Rattle.live_input.specs.Seats.{IsHeld}
use Rattle.live_input.specs.Settling.{Reaches}
use Rattle.live_input.specs.Standing.{LiveIs}
use Rattle.live_input.specs.Through.{next_through}
use Rattle.live_input.proofs.live.Live.finish_all.Given as goal

-- so many messages were finished
abbrev pub invariant-loop-made : goal.invariant-loop-made
invariant-loop-made l =
    record {
      reaches : (ds : List ℕ) (es : List Effect) → LiveIs ds es l.initial.self → IsHeld l.channel l.initial.self.seats
          → (r : Reaches ds (next_through l.now l.channel l.last) es l.self) × (length r.calls ≡ l.made);
      rest : l.self ≡ record l.initial.self { dispatcher = l.self.dispatcher; steps = l.self.steps };
    }
