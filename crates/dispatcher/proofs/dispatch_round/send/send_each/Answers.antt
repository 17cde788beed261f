use Rattle.std.proofs.Common.{◌-◌, ◌<◌, length, arith}
use Rattle.std.specs.Option.{option_copied}
use Rattle.std.proofs.lemmas.List.{get_or_default}
use Rattle.dispatcher.proofs.DispatchChannels.Picking.{less_without}
use Rattle.dispatcher.proofs.DispatchChannels.Moved.{rest_within}
use Rattle.dispatcher.proofs.DispatchRound.Reaching.{each_next, each_last}
use Rattle.dispatcher.proofs.dispatch_round.send.send_each.Goals as goal

pub loop-rest-smaller : goal.loop-rest-smaller
loop-rest-smaller c = rw c.without-rest.ensures (less_without c.loop-rest.rest c.first_of-window.result c.first_of-window.ensures.has)

pub loop-rest-preserved : goal.loop-rest-preserved
loop-rest-preserved c =
    let k = c.first_of-window.result in
    let has = c.first_of-window.ensures.has in
    let is = c.loop-rest.invariant.0 k has in
    let within : k - 1 < length c.args.origins.now = omega (arith, c.first_of-window.ensures.from, c.first_of-window.ensures.to, c.told-origins) in
    rw c.without-rest.ensures (
      rest_within c.args.outgoing c.loop-rest.rest k has c.loop-rest.invariant.0,
      each_next c.args.round.now c.args.touches.now (option_copied c.args.losses) c.args.outgoing c.loop-rest.rest
          (record { window = k; origin = _; clock = c.args.clock; covers = c.args.covers })
          c.args.origins.now c.args.channels.now c.loop-rest.channels c.send_one.new.channels
          has
          is
          (c.requires.live k is)
          (get_or_default c.args.origins.now (k - 1) _ _ within)
          c.loop-rest.invariant.1
          c.send_one.ensures,
    )

pub returns : goal.returns
returns c =
    each_last c.args.covers.now c.args.round.now c.args.touches.now (option_copied c.args.losses) c.args.outgoing c.loop-rest.rest c.args.origins.now c.args.clock c.args.channels.now c.loop-rest.channels
    c.loop-rest-test.false c.loop-rest.invariant.1
