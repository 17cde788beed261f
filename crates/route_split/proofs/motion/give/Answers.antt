use Rattle.std.proofs.Common.{◌==◌, ◌&&◌, sym, ap, ◌∙◌}
use Rattle.routing_rules.specs.Choice.{takers}
use Rattle.route_split.specs.Seen.{scene_at}
use Rattle.route_split.proofs.Found.{has_pairs}
use Rattle.route_split.proofs.motion.give.Goals as goal

pub returns-clause-gives : goal.returns-clause-gives
returns-clause-gives c w d i =
    has_pairs c.args.device c.args.pointer.id (takers (scene_at c.args.seen.now) c.args.device c.args.pointer.at) w d i
    ∙ ap (λ b. d == c.args.device && (b && i == c.args.pointer.id)) (sym (c.takers.ensures w))
