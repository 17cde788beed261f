use Rattle.std.proofs.Common.{ap, ap₂, not, ◌∙◌, ◌&&◌}
use Rattle.window_snapshot.specs.Mask.{mask_has}
use Rattle.window_snapshot.specs.Occlusion.{is_blocked_at}
use Rattle.window_snapshot.specs.Walls.{reaches}
use Rattle.window_snapshot.proofs.Parts.{mask_has-and}
use Rattle.route_split.proofs.Found.{left_over}
use Rattle.route_split.proofs.choice.may_take.Goals as goal

pub returns : goal.returns
returns c w =
    let n = c.args.seen.now in
    let both = mask_has-and c.args.among n.able w in
    let k = is_blocked_at n.windows.now (reaches n.reach.now) c.args.at.x c.args.at.y w in
    c.mask_less.ensures.channels w
    ∙ ap₂ (λ b a. not b && a) (c.blocked.ensures w ∙ ap (λ a. a && k) both) both
    ∙ left_over (mask_has c.args.among w) (mask_has n.able w) k
