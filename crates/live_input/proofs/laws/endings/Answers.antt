use Rattle.live_input.proofs.Unsent.{unsent_law, state_alone}
use Rattle.live_input.proofs.laws.endings.Goals as goal

pub returns-clause-unsent : goal.returns-clause-unsent
returns-clause-unsent c = unsent_law

pub returns-clause-alone : goal.returns-clause-alone
returns-clause-alone c = state_alone
