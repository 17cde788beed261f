use Rattle.std.proofs.Common.{◌||◌, ap₂, ◌∙◌}
use Rattle.route_split.proofs.MaskSets.{mask_has-or}
use Rattle.route_split.proofs.touches.Touches.concerned.Goals as goal

pub returns : goal.returns
returns c w = mask_has-or c.holders.result c.given_windows.result w ∙ ap₂ (λ x y. x || y) (c.holders.ensures w) (c.given_windows.ensures w)
