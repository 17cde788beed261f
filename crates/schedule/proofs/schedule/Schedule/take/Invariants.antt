use Rattle.std.proofs.Common.{◌-◌, List}
use Rattle.dispatch_history.specs.Effect.{Effect}
use Rattle.dispatch_history.specs.Plan.{Cooked}
use Rattle.schedule.specs.declared.keeping.Lines.{Lines}
use Rattle.schedule.specs.Planned.{plan_of}
use Rattle.schedule.specs.More.{ComesTo}
use Rattle.schedule.specs.State.{RanWith}
use Rattle.schedule.proofs.Running.{Coming}
use Rattle.schedule.proofs.schedule.Schedule.take.Given as goal

-- the args are next
abbrev pub invariant-rounds : goal.invariant-rounds
invariant-rounds l =
    record {
      coming : (how : Lines) (given : List Cooked) → RanWith how (plan_of l.plan) given l.fn.self → Coming how (plan_of l.plan) given (record { moment = l.moment; args = l.args }) l.self;
      more : (es : List Effect) → ComesTo es l.fn.self.dispatcher → ComesTo es l.self.dispatcher;
    }

abbrev pub decreases-rounds : goal.decreases-rounds
decreases-rounds l = 4000001 - l.self.calls

-- and so they are in the loop before it
abbrev pub invariant-quick : goal.invariant-quick
invariant-quick l =
    record {
      coming : (how : Lines) (given : List Cooked) → RanWith how (plan_of l.plan) given l.fn.self → Coming how (plan_of l.plan) given (record { moment = l.moment; args = l.args }) l.self;
      more : (es : List Effect) → ComesTo es l.fn.self.dispatcher → ComesTo es l.self.dispatcher;
    }

abbrev pub decreases-quick : goal.decreases-quick
decreases-quick l = 4000001 - l.self.calls
