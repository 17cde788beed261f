use Rattle.std.proofs.Common.{◌≡◌, ◌-◌, List}
use Rattle.dispatch_history.specs.Effect.{Effect}
use Rattle.dispatch_history.specs.Plan.{Cooked}
use Rattle.dispatch_history.specs.Ordered.{end_of}
use Rattle.schedule.specs.declared.keeping.Lines.{Lines}
use Rattle.schedule.specs.Planned.{plan_of}
use Rattle.schedule.specs.Run.{with_cooked}
use Rattle.schedule.specs.More.{ComesTo}
use Rattle.schedule.specs.State.{RanWith}
use Rattle.schedule.proofs.Running.{Closing}
use Rattle.schedule.proofs.schedule.Schedule.finish.Given as goal

-- all args came, and the run goes up to its end
abbrev pub invariant-rounds : goal.invariant-rounds
invariant-rounds l =
    record {
      closing : (how : Lines) (given : List Cooked) → RanWith how (plan_of l.plan) given l.fn.self
          → Closing how (plan_of l.plan) given l.self × (l.end ≡ end_of (with_cooked (plan_of l.plan) given));
      more : (es : List Effect) → ComesTo es l.fn.self.dispatcher → ComesTo es l.self.dispatcher;
    }

abbrev pub decreases-rounds : goal.decreases-rounds
decreases-rounds l = 4000001 - l.self.calls
