use Rattle.std.proofs.Common.{◌≡◌, ℕ, List, None}
use Rattle.dispatch_history.specs.Effect.{Effect}
use Rattle.live_input.specs.Answers.{SameClients}
use Rattle.live_input.specs.Easing.{IsCalm}
use Rattle.live_input.specs.Settling.{next_due}
use Rattle.live_input.specs.Standing.{LiveIs}
use Rattle.live_input.proofs.Stepped.{DoesSome}
use Rattle.live_input.proofs.limit.Limited.catch_up.Given as goal

-- some of what is due was done
abbrev pub invariant-loop-made : goal.invariant-loop-made
invariant-loop-made l =
    record {
      does :
          (ds : List ℕ) (es : List Effect) → LiveIs ds es l.initial.self.live → l.initial.self.live.clock ≡ l.now
          → DoesSome ds l.now es l.initial.self l.self;
      still :
          (ds : List ℕ) (es : List Effect) → LiveIs ds es l.initial.self.live → IsCalm es l.initial.self → next_due l.now es ≡ None
          → l.made ≡ 0;
      first : l.made ≡ 0 → l.self ≡ l.initial.self;
      clients : SameClients l.initial.self.live l.self.live;
      clock : l.initial.self.live.clock ≡ l.now → l.self.live.clock ≡ l.now;
    }
