use Rattle.std.proofs.Common.{ap, ◌∙◌}
use Rattle.window_snapshot.specs.Mask.{mask_has}
use Rattle.dispatcher.proofs.WindowCovers.Masks.{given_mask}
use Rattle.dispatcher.proofs.window_covers.covers.give_in.Goals as goal

pub returns : goal.returns
returns c w d =
    ap (λ m. mask_has m w) (c.put.ensures d)
    ∙ given_mask c.after-mask.result c.mask_at-was.result c.args.masks.now (mask_has c.args.gift.now.windows w) (mask_has c.args.held w)
    (mask_has c.args.found w) d c.args.gift.now.device w (c.after-mask.ensures w) c.mask_at-was.ensures
