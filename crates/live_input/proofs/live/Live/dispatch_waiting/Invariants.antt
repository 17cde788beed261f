use Rattle.std.proofs.Common.{◌≡◌, ℕ, ◌+◌, List, length}
use Rattle.dispatch_history.specs.Effect.{Effect}
use Rattle.live_input.specs.Answers.{SameRest}
use Rattle.live_input.specs.Room.{PumpsOver}
use Rattle.live_input.specs.Settling.{Reaches, next_waiting}
use Rattle.live_input.specs.Standing.{LiveIs}
use Rattle.live_input.proofs.live.Live.dispatch_waiting.Given as goal

-- some of what waits was dispatched
abbrev pub invariant-loop-made : goal.invariant-loop-made
invariant-loop-made l =
    record {
      reaches : (ds : List ℕ) (es : List Effect) → LiveIs ds es l.initial.self → Reaches ds (next_waiting l.now) es l.self;
      room : (ds : List ℕ) (es : List Effect) → LiveIs ds es l.initial.self → PumpsOver l.initial.self l.self;
      steps : (ds : List ℕ) (es : List Effect) → LiveIs ds es l.initial.self
          → l.made + length l.self.dispatcher.queue.waiting ≡ length l.initial.self.dispatcher.queue.waiting;
      rest : SameRest l.initial.self l.self;
    }
