use Rattle.std.proofs.Common.{ap, sym, ◌||◌, ◌∙◌}
use Rattle.std.specs.Option.{option_copied}
use Rattle.window_snapshot.specs.Mask.{mask_has}
use Rattle.focus_resolver.proofs.Masks.{mask_has-or}
use Rattle.dispatcher.specs.DispatchRound.Rounds.{may_reach}
use Rattle.dispatcher.proofs.dispatch_round.concern.may_reach.Goals as goal

pub returns-in-Some : goal.returns-in-Some
returns-in-Some c w =
    mask_has-or c.concerned.result c.args.round.now.watchers w
    ∙ ap (λ b. b || mask_has c.args.round.now.watchers w) (c.concerned.ensures w)
    ∙ sym (ap (λ o. may_reach c.args.touches.now c.args.round.now.mark (option_copied o) c.args.round.now.watchers w) c.in-Some.is)
