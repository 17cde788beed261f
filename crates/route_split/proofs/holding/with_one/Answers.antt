use Rattle.std.proofs.Common.{◌==◌, ◌||◌, ◌&&◌, ap, sym, ◌∙◌}
use Rattle.window_snapshot.specs.Mask.{mask_has}
use Rattle.touch_state.proofs.Passes.{noted_one}
use Rattle.route_split.proofs.holding.with_one.Goals as goal

pub returns-then-hit : goal.returns-then-hit
returns-then-hit c w =
    ap (λ m. mask_has m w) c.mask_with.ensures
    ∙ noted_one c.args.mask c.args.channel c.requires w
    ∙ ap (λ b. mask_has c.args.mask w || (w == c.args.channel && b)) (sym c.if-hit.true)
