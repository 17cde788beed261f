use Rattle.std.proofs.Common.{◌&&◌, ◌||◌, sym, ap, ap₂, ◌∙◌}
use Rattle.window_snapshot.specs.Mask.{mask_has}
use Rattle.route_split.specs.Tables.{holds_at}
use Rattle.route_split.proofs.MaskSets.{mask_has-or}
use Rattle.why_lines.proofs.Keyed.{or_false}
use Rattle.why_lines.proofs.owners.with_holders.Goals as goal

pub returns-then-has : goal.returns-then-has
returns-then-has c w =
    mask_has-or c.args.mask c.holding.result w
    ∙ ap₂ (λ a b. mask_has c.args.mask w || (a && b)) (sym c.if-has.true ∙ c.has.ensures) (c.holding.ensures w)

pub returns-else-has : goal.returns-else-has
returns-else-has c w =
    sym (or_false (mask_has c.args.mask w))
    ∙ ap (λ b. mask_has c.args.mask w || (b && holds_at c.args.touches.now w c.args.device c.args.id)) (sym c.if-has.false ∙ c.has.ensures)
