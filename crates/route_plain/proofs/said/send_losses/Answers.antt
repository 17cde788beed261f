use Rattle.std.proofs.Common.{ap, sym, ◌∙◌, ◌++◌, ◌+◌, ◌<◌, drop, List, arith}
use Rattle.std.specs.Prelude.{flat_map}
use Rattle.input_types.specs.declared.motion.Motion.{Motion}
use Rattle.routing_rules.specs.Outgoing.{devices}
use Rattle.route_plain.specs.Loss.{mark_of}
use Rattle.route_plain.specs.Seen.{scene_at}
use Rattle.route_plain.specs.Route.{to_channel}
use Rattle.route_plain.specs.Sending.{sent_lost}
use Rattle.route_plain.proofs.SaidLaws.{say_many, losses_step}
use Rattle.route_plain.proofs.said.send_losses.Goals as goal

pub loop-below-preserved : goal.loop-below-preserved
loop-below-preserved c =
    let k = mark_of c.args.seen.now.snapshot.now c.args.change.now.gained.items c.args.change.now.loss in
    let outgoing = sent_lost (scene_at c.args.seen.now) k c.args.channel in
    let lt : c.loop-below.below < 8 = omega arith in
    rw (c.in_ok-send_loss.ensures, c.in-Some.ensures.value)
    (say_many c.loop-below.out.items c.args.channel (outgoing (c.loop-below.below + 1)) (flat_map outgoing (drop (c.loop-below.below + 1) devices))
    ∙ ap (λ (ms : List Motion). c.loop-below.out.items ++ to_channel c.args.channel ms) (sym (losses_step outgoing c.loop-below.below lt))
    ∙ c.loop-below.invariant)
