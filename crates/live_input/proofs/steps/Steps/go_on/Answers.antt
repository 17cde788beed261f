-- A finish is recorded.
use Rattle.std.proofs.Common.{subst}
use Rattle.dispatch_calls.specs.declared.call.Call.{Call}
use Rattle.dispatch_calls.specs.declared.call.Call.TheVariants.{Finish}
use Rattle.dispatch_history.specs.Legal.{answered}
use Rattle.dispatcher.specs.DispatchTables.Lawful.{Lawful}
use Rattle.live_input.specs.Steps.{NotesOnly}
use Rattle.live_input.proofs.Noting.{steps_finish}
use Rattle.live_input.proofs.steps.Steps.go_on.Goals as goal

pub returns : goal.returns
returns c = λ ds now seq es same after h.
    let call : Call = Finish now c.args.channel seq in
    let fs = answered ds call es in
    steps_finish ds now c.args.channel seq es c.args.self.now c.note_some.new.self (subst (λ ys. Lawful ys fs) same after.lawful) h
    (subst (λ s. NotesOnly fs c.args.channel s c.note_some.new.self) c.pass.ensures (c.note_some.ensures fs after))
