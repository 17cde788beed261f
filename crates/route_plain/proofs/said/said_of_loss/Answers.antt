use Rattle.std.proofs.Common.{sym, ◌∙◌, refl}
use Rattle.route_plain.proofs.SaidLaws.{said_none, said_step}
use Rattle.route_plain.proofs.said.said_of_loss.Goals as goal

pub loop-below-init : goal.loop-below-init
loop-below-init c = c.new-out.ensures.items ∙ sym (said_none _)

pub loop-below-preserved : goal.loop-below-preserved
loop-below-preserved c =
    said_step _ c.loop-below.below c.loop-below.out.items c.send_losses.new.out.items _ c.in_ok-send_losses.ensures c.loop-below.invariant refl
