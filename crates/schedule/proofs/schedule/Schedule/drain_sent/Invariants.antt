use Rattle.std.proofs.Common.{◌≡◌, ◌≤◌, ℕ, List, length}
use Rattle.dispatch_history.specs.Effect.{Effect, stream}
use Rattle.dispatch_history.specs.Plan.{Plan}
use Rattle.dispatcher.specs.Access.{gone}
use Rattle.schedule.specs.declared.keeping.Lines.{Lines}
use Rattle.schedule.specs.Making.{GoesOnAt}
use Rattle.schedule.specs.State.{HasWith}
use Rattle.schedule.proofs.schedule.Schedule.drain_sent.Given as goal

-- the run is as after the same effects, and the first channels released all that they were sent
abbrev pub invariant-loop-place : goal.invariant-loop-place
invariant-loop-place l =
    record {
      has : (how : Lines) (plan : Plan) (es : List Effect) → HasWith how plan es l.initial.self → HasWith how plan es l.self;
      all : (how : Lines) (plan : Plan) (es : List Effect) → HasWith how plan es l.initial.self → (c : ℕ) → 1 ≤ c → c ≤ l.place
          → gone l.self.dispatcher c ≡ length (stream es c);
      calls : l.self.calls ≡ l.initial.self.calls;
      messages : l.initial.self.messages ≤ l.self.messages;
      more : GoesOnAt l.initial.self l.self;
    }
