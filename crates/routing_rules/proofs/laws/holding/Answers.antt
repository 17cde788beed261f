use Rattle.routing_rules.proofs.HoldingLaws.{holds_step, held_step, held_law, held_any_law}
use Rattle.routing_rules.proofs.laws.holding.Goals as goal

pub returns : goal.returns
returns c = record { step = holds_step; list_step = held_step; list = held_law; any = held_any_law }
