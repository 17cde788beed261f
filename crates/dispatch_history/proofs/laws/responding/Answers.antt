use Rattle.dispatch_history.proofs.AbleLaws.{unresponsive_step, able_step}
use Rattle.dispatch_history.proofs.laws.responding.Goals as goal

pub returns : goal.returns
returns c = record { unresponsive = unresponsive_step; able = able_step }
