use Rattle.unread_keys.proofs.Looking.{keys_kept}
use Rattle.unread_keys.proofs.SamePlan.{keeps_plan}
use Rattle.unread_keys.proofs.laws.reading.Goals as goal

pub returns-clause-plan : goal.returns-clause-plan
returns-clause-plan c = keeps_plan

pub returns-clause-listed : goal.returns-clause-listed
returns-clause-listed c = keys_kept
