use Rattle.std.proofs.Common.{ap, ap₂, ◌||◌, ◌∙◌}
use Rattle.window_snapshot.specs.Mask.{mask_has}
use Rattle.focus_resolver.proofs.Masks.{mask_has-or}
use Rattle.dispatcher.proofs.dispatch_round.concern.concerned.Goals as goal

pub returns : goal.returns
returns c w =
    let r = c.args.round.now in
    mask_has-or _ r.gained w
    ∙ ap (λ b. b || mask_has r.gained w)
    (mask_has-or _ r.lost w
    ∙ ap (λ b. b || mask_has r.lost w)
    (mask_has-or c.may_reach.result c.keyed.result w ∙ ap₂ (λ a b. a || b) (c.may_reach.ensures w) (ap (λ n. mask_has n w) c.keyed.ensures)))
