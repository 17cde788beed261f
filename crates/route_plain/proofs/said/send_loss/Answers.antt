use Rattle.std.proofs.lemmas.Result.{IfOk-equal}
use Rattle.route_plain.proofs.SaidLaws.{same_cancels}
use Rattle.route_plain.proofs.Sayings.{say_same}
use Rattle.route_plain.proofs.said.send_loss.Goals as goal

pub returns : goal.returns
returns c =
    IfOk-equal c.send_cancels.result c.send_cancels.new.out.items _ _ c.send_cancels.ensures
    (say_same c.args.out.now.items c.args.channel _ _
    (same_cancels c.args.device _ _ _ _ _ _ c.last_of-last.ensures.value c.held_around-held.ensures.before c.held_around-held.ensures.later))
