use Rattle.std.proofs.Common.{◌≡◌, ◌≤◌, List}
use Rattle.dispatch_history.specs.Effect.{Effect}
use Rattle.dispatch_history.specs.Plan.{Plan}
use Rattle.schedule.specs.declared.keeping.Lines.{Lines}
use Rattle.schedule.specs.More.{ComesTo}
use Rattle.schedule.specs.State.{HasWith}
use Rattle.schedule.proofs.Taking.{Midway}
use Rattle.schedule.proofs.schedule.Schedule.receive_all.Given as goal

-- the channels that are left in the mask are still to be received from
abbrev pub invariant-loop-rest : goal.invariant-loop-rest
invariant-loop-rest l =
    record {
      midway : (how : Lines) (plan : Plan) (es : List Effect) → HasWith how plan es l.initial.self → Midway how plan es l.initial.self.dispatcher l.rest l.self;
      calls : l.initial.self.calls ≤ l.self.calls;
      more : (es : List Effect) → ComesTo es l.initial.self.dispatcher → ComesTo es l.self.dispatcher;
      latest : l.self.latest ≡ l.initial.self.latest;
    }

-- one channel less is left
abbrev pub decreases-loop-rest : goal.decreases-loop-rest
decreases-loop-rest l = l.rest
