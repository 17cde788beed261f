use Rattle.std.proofs.Common.{◌||◌, ◌&&◌, not, ap, ◌∙◌}
use Rattle.window_snapshot.specs.Mask.{mask_has}
use Rattle.route_split.proofs.MaskSets.{mask_has-or}
use Rattle.dispatcher.proofs.WindowCovers.Giving.{turned}
use Rattle.dispatcher.proofs.window_covers.covers.after.Goals as goal

pub returns : goal.returns
returns c w =
    mask_has-or c.mask_less-kept.result c.args.found w
    ∙ ap (λ b. b || mask_has c.args.found w)
    (c.mask_less-kept.ensures.channels w ∙ ap (λ b. not b && mask_has c.args.mask w) (c.mask_less-begun.ensures.channels w))
    ∙ turned (mask_has c.args.given w) (mask_has c.args.held w) (mask_has c.args.found w) (mask_has c.args.mask w)
