use Rattle.std.proofs.Common.{ap}
use Rattle.window_snapshot.specs.Mask.{mask_has}
use Rattle.route_split.specs.Seen.{scene_at}
use Rattle.route_split.proofs.Found.{targets_are}
use Rattle.route_split.proofs.choice.targets.Goals as goal

pub returns : goal.returns
returns c =
    targets_are (scene_at c.args.seen.now) c.args.device c.args.at (mask_has c.spies-spies.result) c.some_pilfering-some.result c.choice_at-chosen.result.window
    c.target_mask.result c.spies-spies.ensures (ap (λ x. x.window) c.choice_at-chosen.ensures) c.some_pilfering-some.ensures c.target_mask.ensures
