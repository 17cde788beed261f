use Rattle.std.proofs.Common.{◌-◌, ◌<◌, length, None, ap, ◌∙◌, arith}
use Rattle.std.proofs.lemmas.List.{get_or_default}
use Rattle.dispatcher.proofs.DispatchChannels.Picking.{channel_low, less_without}
use Rattle.dispatcher.proofs.DispatchChannels.Moved.{reached, all_reached, rest_within}
use Rattle.dispatcher.proofs.DispatchRound.Reaching.{each_next, each_last, not_reached}
use Rattle.dispatcher.proofs.DispatchRound.Steadily.{spends_next}
use Rattle.dispatcher.proofs.dispatch_round.steady.send_each.Goals as goal

pub loop-rest-smaller : goal.loop-rest-smaller
loop-rest-smaller c = rw c.without-rest.ensures (less_without c.loop-rest.rest c.first_of-window.result c.first_of-window.ensures.has)

pub loop-rest-preserved : goal.loop-rest-preserved
loop-rest-preserved c =
    let k = c.first_of-window.result in
    let has = c.first_of-window.ensures.has in
    let is = c.loop-rest.invariant.0 k has in
    let within : k - 1 < length c.args.origins.now = omega (arith, c.first_of-window.ensures.from, c.first_of-window.ensures.to, c.told-origins) in
    rw c.without-rest.ensures (
      rest_within c.args.outgoing c.loop-rest.rest k has c.loop-rest.invariant.0,
      each_next c.args.round.now c.args.touches.now None c.args.outgoing c.loop-rest.rest
          (record { window = k; origin = _; clock = c.args.clock; covers = c.args.covers })
          c.args.origins.now c.args.channels.now c.loop-rest.channels c.send_one.new.channels
          has
          is
          (c.requires.live k is)
          (get_or_default c.args.origins.now (k - 1) _ _ within)
          c.loop-rest.invariant.1
          c.send_one.ensures.gets,
      spends_next c.args.round.now c.args.outgoing c.loop-rest.rest k c.args.channels.now c.loop-rest.channels c.send_one.new.channels has
          (c.loop-rest.invariant.1.stays k (channel_low c.loop-rest.rest k has) (not_reached c.args.outgoing c.loop-rest.rest k has))
          c.send_one.ensures.gets.outgoing.others
          c.loop-rest.invariant.2
          c.send_one.ensures.spends,
    )

pub returns-clause-each : goal.returns-clause-each
returns-clause-each c =
    each_last c.args.covers.now c.args.round.now c.args.touches.now None c.args.outgoing c.loop-rest.rest c.args.origins.now c.args.clock c.args.channels.now c.loop-rest.channels
    c.loop-rest-test.false c.loop-rest.invariant.1

pub returns-clause-spends : goal.returns-clause-spends
returns-clause-spends c w has =
    c.loop-rest.invariant.2 w (ap (λ n. reached c.args.outgoing n w) c.loop-rest-test.false ∙ all_reached c.args.outgoing w ∙ has)
