use Rattle.std.proofs.Common.{subst, sym}
use Rattle.dispatch_history.specs.Legal.{Legal}
use Rattle.dispatch_core.proofs.Seats.{one_history}
use Rattle.dispatch_core.proofs.machine.CoreMachine.step.Goals as goal

-- src/machine.rt:23:5
pub returns-clause-legal : goal.returns-clause-legal
returns-clause-legal c = subst (Legal c.apply.new.self.displays) (sym (one_history c.apply.new.self.entries)) c.apply.ensures.sound.legal
