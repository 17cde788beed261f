use Rattle.std.proofs.Common.{ap}
use Rattle.routing_rules.specs.Taking.{Pilfered}
use Rattle.route_plain.proofs.IdSets.{ids_are}
use Rattle.route_plain.proofs.change.loss_of.Goals as goal

pub returns-in-Pilfer : goal.returns-in-Pilfer
returns-in-Pilfer c =
    rw (c.in-Pilfer.is, c.ids_with.ensures, c.empty.ensures)
    (ap (Pilfered c.in-Pilfer.channel c.in-Pilfer.device) (ids_are c.args.seen.now.holds.now c.in-Pilfer.channel c.in-Pilfer.device))
