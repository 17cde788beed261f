use Rattle.std.proofs.Common.{sym, ap, ◌∙◌}
use Rattle.window_snapshot.specs.Mask.{mask_has}
use Rattle.dispatcher.proofs.Made.NoOps.{hands_gone, hands_live}
use Rattle.dispatcher.proofs.owners.receive.Goals as goal

pub returns-then-not-mask_has : goal.returns-then-not-mask_has
returns-then-not-mask_has c =
    hands_gone c.args.channel c.args.routing.now
    (ap (λ m. mask_has m c.args.channel) (sym c.live.ensures.value) ∙ sym c.mask_has.ensures ∙ c.if-not-mask_has.true)

pub returns : goal.returns
returns c =
    hands_live c.args.channel c.args.routing.now c.receive_uncopied.new.self
    (ap (λ m. mask_has m c.args.channel) (sym c.live.ensures.value) ∙ sym c.mask_has.ensures ∙ c.if-not-mask_has.false)
    c.receive_uncopied.ensures
