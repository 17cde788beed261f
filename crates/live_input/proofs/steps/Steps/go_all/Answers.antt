-- A call is counted, and then everything is recorded.
use Rattle.std.proofs.Common.{subst}
use Rattle.dispatch_history.specs.Legal.{answered}
use Rattle.live_input.specs.Steps.{NotesAll}
use Rattle.live_input.proofs.Noting.{steps_all}
use Rattle.live_input.proofs.steps.Steps.go_all.Goals as goal

pub returns : goal.returns
returns c = λ ds call es same after h.
    steps_all ds call es c.args.self.now c.note_all.new.self h
    (subst (λ s. NotesAll (answered ds call es) s c.note_all.new.self) c.pass.ensures (c.note_all.ensures (answered ds call es) after))
