use Rattle.dispatch_history.proofs.OrderedLaws.{ordered_unique}
use Rattle.run_laws.proofs.Growing.{one_outcome}
use Rattle.run_laws.proofs.laws.answering.Goals as goal

pub returns : goal.returns
returns c = record { run = ordered_unique; outcome = one_outcome }
