use Rattle.dispatcher.proofs.DispatchChannels.Picking.{less_without}
use Rattle.dispatcher.proofs.DispatchChannels.Moved.{rest_within}
use Rattle.dispatcher.proofs.DispatchRound.PassingEach.{passes_last, passes_next, sent_next}
use Rattle.dispatcher.proofs.dispatch_round.past.move_each.Goals as goal

pub loop-rest-smaller : goal.loop-rest-smaller
loop-rest-smaller c = rw c.without-rest.ensures (less_without c.loop-rest.rest c.first_of-window.result c.first_of-window.ensures.has)

pub loop-rest-preserved : goal.loop-rest-preserved
loop-rest-preserved c =
    let ts = c.args.touches.now in
    let m = c.args.motion.now in
    let k = c.first_of-window.result in
    let has = c.first_of-window.ensures.has in
    let is = c.loop-rest.invariant.0 k has in
    let one = c.move_past-moves in
    rw c.without-rest.ensures (
      rest_within c.args.outgoing c.loop-rest.rest k has c.loop-rest.invariant.0,
      sent_next ts m c.args.outgoing c.loop-rest.rest k c.loop-rest.sent c.with_if-sent.result one.result has is one.ensures.sent c.loop-rest.invariant.1
          c.with_if-sent.ensures,
      passes_next ts m c.args.outgoing c.loop-rest.rest k c.args.channels.now c.loop-rest.channels one.new.channels has is c.loop-rest.invariant.2
          one.ensures.passes,
    )

pub returns-clause-passes : goal.returns-clause-passes
returns-clause-passes c =
    passes_last c.args.touches.now c.args.motion.now c.args.outgoing c.loop-rest.rest c.args.channels.now c.loop-rest.channels c.loop-rest-test.false
    c.loop-rest.invariant.2
