use Rattle.routing_rules.proofs.SinceLaws.{since_step, since_law}
use Rattle.routing_rules.proofs.laws.beginning.Goals as goal

pub returns : goal.returns
returns c = record { step = since_step; number = since_law }
