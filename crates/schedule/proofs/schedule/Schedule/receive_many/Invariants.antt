use Rattle.std.proofs.Common.{◌≡◌, ◌≤◌, ℕ, List}
use Rattle.std.specs.Prelude.{replicate}
use Rattle.dispatch_calls.specs.declared.call.Call.TheVariants.{Receive}
use Rattle.dispatch_history.specs.Effect.{Effect}
use Rattle.dispatcher.specs.Access.{gone as gone_of}
use Rattle.dispatch_history.specs.Plan.{Plan}
use Rattle.dispatch_history.specs.Ordered.{extend}
use Rattle.schedule.specs.declared.keeping.Lines.{Lines}
use Rattle.schedule.specs.Making.{GoesOnAt}
use Rattle.schedule.specs.State.{HasWith}
use Rattle.schedule.proofs.schedule.Schedule.receive_many.Given as goal

-- the run has so many receives more
abbrev pub invariant-loop : goal.invariant-loop
invariant-loop l =
    record {
      has : (how : Lines) (plan : Plan) (es : List Effect) → HasWith how plan es l.initial.self → HasWith how plan (extend plan.displays es (replicate l.counter (Receive l.channel))) l.self;
      gone : (c : ℕ) → 1 ≤ c → gone_of l.self.dispatcher c ≡ gone_of l.initial.self.dispatcher c;
      calls : l.initial.self.calls ≤ l.self.calls;
      more : GoesOnAt l.initial.self l.self;
    }
