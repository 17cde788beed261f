use Rattle.dispatcher.proofs.DispatchRound.PassingEach.{moves_past}
use Rattle.dispatcher.proofs.dispatch_round.past.send_past.Goals as goal

pub returns : goal.returns
returns c =
    moves_past c.args.touches.now c.args.motion.now c.args.outgoing c.move_each-sent.result c.args.clock c.args.channels.now c.move_each-sent.new.channels
    c.publish.new.self
    c.requires.live
    c.move_each-sent.ensures.sent
    c.move_each-sent.ensures.passes
    c.publish.ensures
