use Rattle.std.proofs.Common.{ap, ◌∙◌, sym}
use Rattle.focus_resolver.specs.Resolver.{is_at}
use Rattle.focus_resolver.proofs.Masks.{one_channel, focus_is_in}
use Rattle.window_snapshot.specs.Mask.{mask_has}
use Rattle.focus_resolver.proofs.resolver.focus_mask.Goals as goal

pub returns-in-Some : goal.returns-in-Some
returns-in-Some c =
    λ k. ap (λ m. mask_has m k) c.mask_with.ensures
    ∙ one_channel c.args.focusable c.in-Some.channel k (focus_is_in c.args.focusable c.args.requested c.in-Some.channel (sym c.focus_if.ensures ∙ c.in-Some.is))
    ∙ ap (λ o. is_at o k) (sym c.in-Some.is ∙ c.focus_if.ensures)
