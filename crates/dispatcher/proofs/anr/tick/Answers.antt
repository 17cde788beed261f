use Rattle.std.proofs.Common.{sym, ap, ◌∙◌, lit<}
use Rattle.window_snapshot.specs.Mask.{mask_has}
use Rattle.window_snapshot.proofs.Masks.{mask_has-zero, same_mask}
use Rattle.dispatcher.proofs.Made.NoOps.{names_none}
use Rattle.dispatcher.proofs.Rounds.Refocused.{names_some}
use Rattle.dispatcher.proofs.anr.tick.Goals as goal

pub returns-then-mask-eq0-clause-ok : goal.returns-then-mask-eq0-clause-ok
returns-then-mask-eq0-clause-ok c =
    names_none c.args.place c.args.clock c.args.routing.now
    (λ k. sym (c.late-mask.ensures k) ∙ ap (λ m. mask_has m k) c.if-mask-eq0.true ∙ mask_has-zero k)

pub returns-in_err-name_some-clause-calm : goal.returns-in_err-name_some-clause-calm
returns-in_err-name_some-clause-calm c =
    λ none.
    absurd (c.if-mask-eq0.false (same_mask c.late-mask.result 0 c.late-mask.type_inv (lit< tt) (λ k. c.late-mask.ensures k ∙ none k ∙ sym (mask_has-zero k))))

pub returns-clause-ok : goal.returns-clause-ok
returns-clause-ok c =
    names_some c.late-mask.result c.args.place c.args.clock c.args.routing.now c.name_some.new.routing c.late-mask.type_inv c.late-mask.ensures
    c.in_ok-name_some.ensures.ok
