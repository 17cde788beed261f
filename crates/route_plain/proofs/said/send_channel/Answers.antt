use Rattle.std.proofs.lemmas.Result.{IfOk-equal}
use Rattle.route_plain.specs.Seen.{scene_at}
use Rattle.route_plain.proofs.SaidLaws.{same_sent}
use Rattle.route_plain.proofs.Sayings.{say_same}
use Rattle.route_plain.proofs.said.send_channel.Goals as goal

pub returns : goal.returns
returns c =
    IfOk-equal c.send_motion.result c.send_motion.new.out.items _ _ c.send_motion.ensures
    (say_same c.args.out.now.items c.args.channel _ _
    (same_sent (scene_at c.args.seen.now) c.args.motion.now c.args.channel _ _ _ _ c.held_around-held.ensures.before c.held_around-held.ensures.later))
