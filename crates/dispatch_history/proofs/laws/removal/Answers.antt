use Rattle.dispatch_history.proofs.WholeLaws.{removed_law, removed_state_law, gone_law}
use Rattle.dispatch_history.proofs.laws.removal.Goals as goal

pub returns : goal.returns
returns c = record { stream = removed_law; state = removed_state_law; gone = gone_law }
