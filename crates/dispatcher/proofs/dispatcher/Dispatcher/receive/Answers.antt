use Rattle.std.proofs.lemmas.Bool.{true≢false}
use Rattle.dispatch_calls.specs.declared.call.Call.TheVariants.{Receive}
use Rattle.dispatcher.proofs.Made.Answered.{counted, handed, history_on, no_promise, steps_on}
use Rattle.std.proofs.Common.{ap, sym}
use Rattle.dispatcher.proofs.dispatcher.Dispatcher.receive.Goals as goal

pub returns-clause-ok : goal.returns-clause-ok
returns-clause-ok c =
    steps_on (Receive c.args.channel) c.self.inside.tables _ c.args.self.now c.self.view_is
    (handed c.self.inside.tables c.go_on.new.self c.receive.new.routing c.args.channel c.zero.result c.zero.ensures c.go_on.ensures c.receive.ensures)

pub invariant_of-self : goal.invariant_of-self
invariant_of-self c = (
  history_on (Receive c.args.channel) c.self.inside.tables _
      (handed c.self.inside.tables c.go_on.new.self c.receive.new.routing c.args.channel c.zero.result c.zero.ensures c.go_on.ensures c.receive.ensures)
      c.self.invariant.0,
  no_promise (record { queueing = c.go_on.new.self; routing = c.receive.new.routing }) (ap (λ q. q.pumps) c.go_on.ensures),
)

pub returns-in_err-may_step-clause-calm : goal.returns-in_err-may_step-clause-calm
returns-in_err-may_step-clause-calm c es s few calm =
    absurd (true≢false (sym (c.in_err-may_step.ensures.few (counted es c.self.inside.tables c.args.self.now c.self.view_is s few))))
