use Rattle.routing_rules.proofs.PilferingLaws.{pilfering_step, pilfering_law}
use Rattle.routing_rules.proofs.laws.pilfering.Goals as goal

pub returns : goal.returns
returns c = record { step = pilfering_step; test = pilfering_law }
