use Rattle.std.proofs.Common.{ap, refl, ◌∙◌, ◌&&◌}
use Rattle.routing_rules.specs.Choice.{may_take}
use Rattle.route_split.specs.Seen.{scene_at}
use Rattle.route_split.proofs.Found.{takers_are}
use Rattle.route_split.proofs.choice.takers.Goals as goal

pub returns : goal.returns
returns c w =
    let s = scene_at c.args.seen.now in
    c.may_take.ensures w
    ∙ ap (λ b. b && may_take s c.args.device c.args.at w) (c.targets.ensures w)
    ∙ takers_are s c.args.device c.args.at c.args.seen.now.able w refl
