use Rattle.std.proofs.Common.{◌∙◌, ap, ap₂, ◌||◌, false}
use Rattle.focus_resolver.proofs.Masks.{mask_has-or_four}
use Rattle.focus_resolver.proofs.resolver.Focus.focused.Goals as goal

pub returns : goal.returns
returns c =
    λ k. mask_has-or_four c.mask_on.result c.mask_on-2.result c.mask_on-3.result c.mask_on-4.result k
    ∙ ap₂ (λ a b. a || b) (c.mask_on.ensures k)
    (ap₂ (λ a b. a || b) (c.mask_on-2.ensures k)
    (ap₂ (λ a b. a || b) (c.mask_on-3.ensures k)
    (ap (λ a. a || false) (c.mask_on-4.ensures k))))
