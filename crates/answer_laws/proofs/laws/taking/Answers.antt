-- What is handed in is accepted.
use Rattle.answer_laws.proofs.Taking.{order_takes, run_takes}
use Rattle.answer_laws.proofs.laws.taking.Goals as goal

pub returns : goal.returns
returns c = record { run = run_takes; order = order_takes }
