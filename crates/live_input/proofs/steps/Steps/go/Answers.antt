-- A call is recorded by its kind.
use Rattle.std.proofs.Common.{refl, sym, subst}
use Rattle.dispatch_calls.specs.declared.call.Call.{Call}
use Rattle.dispatch_calls.specs.declared.call.Call.TheVariants.{Receive}
use Rattle.dispatch_history.specs.Legal.{answered}
use Rattle.dispatcher.specs.DispatchTables.Lawful.{Lawful}
use Rattle.dispatcher.specs.Dispatching.{IsAfter}
use Rattle.live_input.specs.Steps.{StepsAre}
use Rattle.live_input.proofs.Noted.{steps_pass}
use Rattle.live_input.proofs.steps.Steps.go.Goals as goal

pub returns-in-Finish : goal.returns-in-Finish
returns-in-Finish c = λ ds es same after h.
    let there = subst (λ k. IsAfter (answered ds k es) c.args.dispatcher.now) c.in-Finish.is after in
    subst (λ k. StepsAre (answered ds k es) c.go_on.new.self) (sym c.in-Finish.is)
    (c.go_on.ensures ds c.in-Finish.now c.in-Finish.seq es same there h)

pub returns-in_default : goal.returns-in_default
returns-in_default c = λ ds es same after h. c.go_all.ensures ds c.args.call.now es same after h

pub returns-in-Receive : goal.returns-in-Receive
returns-in-Receive c = λ ds es same after h.
    let call : Call = Receive c.in-Receive.channel in
    let there = subst (λ k. IsAfter (answered ds k es) c.args.dispatcher.now) c.in-Receive.is after in
    subst (λ k. StepsAre (answered ds k es) c.pass.new.self) (sym c.in-Receive.is)
    (subst (StepsAre (answered ds call es)) (sym c.pass.ensures)
    (steps_pass ds call es c.args.self.now (subst (λ ys. Lawful ys (answered ds call es)) same there.lawful) (λ k. refl) (λ t k s e. absurd cc) h))
