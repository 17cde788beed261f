use Rattle.std.proofs.Common.{◌≡◌, ℕ, List, None}
use Rattle.dispatch_history.specs.Effect.{Effect}
use Rattle.live_input.specs.Advancing.{Advances}
use Rattle.live_input.specs.Answers.{SameClients}
use Rattle.live_input.specs.Settling.{next_due}
use Rattle.live_input.specs.Standing.{LiveIs}
use Rattle.live_input.proofs.live.Live.catch_up.Given as goal

-- some of what is due was done
abbrev pub invariant-loop-made : goal.invariant-loop-made
invariant-loop-made l =
    record {
      advances : (ds : List ℕ) (es : List Effect) → LiveIs ds es l.initial.self → Advances ds l.now es l.initial.self l.self;
      still : (ds : List ℕ) (es : List Effect) → LiveIs ds es l.initial.self → next_due l.now es ≡ None → l.made ≡ 0;
      clients : SameClients l.initial.self l.self;
      clock : l.self.clock ≡ l.initial.self.clock;
    }
