use Rattle.std.proofs.Common.{◌∙◌, ap, ◌&&◌, not}
use Rattle.window_snapshot.specs.Mask.{mask_has}
use Rattle.focus_resolver.proofs.Masks.{mask_has-without}
use Rattle.focus_resolver.proofs.resolver.Focus.since.Goals as goal

pub returns-clause-lost : goal.returns-clause-lost
returns-clause-lost c =
    λ k. mask_has-without c.args.before c.focused-after.result k c.focused-after.type_inv
    ∙ ap (λ t. mask_has c.args.before k && not t) (c.focused-after.ensures k)

pub returns-clause-gained : goal.returns-clause-gained
returns-clause-gained c =
    λ k. mask_has-without c.focused-after.result c.args.before k c.ranges.before.fits
    ∙ ap (λ t. t && not (mask_has c.args.before k)) (c.focused-after.ensures k)
