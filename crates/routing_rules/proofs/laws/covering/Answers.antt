use Rattle.routing_rules.proofs.CoverLaws.{cover_law, cover_grows, cover_begins}
use Rattle.routing_rules.proofs.ClearLaws.{able_law, clear_law, blocked_law}
use Rattle.routing_rules.proofs.laws.covering.Goals as goal

pub returns : goal.returns
returns c = record { places = cover_law; grows = cover_grows; begins = cover_begins; clear = clear_law; able = able_law; blocked = blocked_law }
