use Rattle.std.proofs.Common.{◌∙◌, sym}
use Rattle.std.proofs.lemmas.Result.{IfOk-weaker}
use Rattle.route_plain.specs.Seen.{scene_at}
use Rattle.route_plain.specs.Route.{step_of}
use Rattle.route_plain.proofs.SaidLaws.{said_of_motion_is, said_of_removal, said_of_loss_is, is_loss}
use Rattle.route_plain.proofs.said.said_at.Goals as goal

pub returns-in-Pointers : goal.returns-in-Pointers
returns-in-Pointers c =
    rw c.in-Pointers.is
    (IfOk-weaker c.said_of_motion.result _ _
    (λ v e. e
    ∙ said_of_motion_is (scene_at c.args.seen.now) c.in-Pointers.motion c.args.number c.args.seen.now.holds.now c.args.change.now.gained.items
    c.args.change.now.loss (rw c.in-Pointers.is at c.requires.change) c.said_of_motion.ensures.device.0 c.said_of_motion.ensures.device.1)
    c.said_of_motion.ensures.said)

pub returns-in-Forget : goal.returns-in-Forget
returns-in-Forget c = rw c.in-Forget.is (c.new.ensures.items ∙ sym (said_of_removal (scene_at c.args.seen.now) c.in-Forget.channel))

pub returns-in_default : goal.returns-in_default
returns-in_default c =
    let s = scene_at c.args.seen.now in
    IfOk-weaker c.said_of_loss.result _ _
    (λ v e. e
    ∙ said_of_loss_is s (step_of c.args.turn.now s.windows) c.args.number c.args.seen.now.holds.now c.args.change.now.gained.items
    c.args.change.now.loss (is_loss c.args.turn.now s.windows c.in_default.not-Pointers c.in_default.not-Forget) c.requires.change)
    c.said_of_loss.ensures
