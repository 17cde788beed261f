use Rattle.std.proofs.Common.{◌∙◌}
use Rattle.std.proofs.lemmas.List.{length-set}
use Rattle.dispatcher.proofs.DispatchChannels.Picking.{less_without}
use Rattle.dispatcher.proofs.DispatchChannels.Moved.{rest_within, cleared_next}
use Rattle.dispatcher.proofs.dispatch_channels.due.clear_all.Goals as goal

pub loop-rest-smaller : goal.loop-rest-smaller
loop-rest-smaller c = rw c.without-rest.ensures (less_without c.loop-rest.rest c.first_of-channel.result c.first_of-channel.ensures.has)

pub loop-rest-preserved : goal.loop-rest-preserved
loop-rest-preserved c =
    let has = c.first_of-channel.ensures.has in
    let is = c.loop-rest.invariant.1 c.first_of-channel.result has in
    rw (c.without-rest.ensures, c.clear.ensures) (
      length-set c.loop-rest.tracker _ _ ∙ c.loop-rest.invariant.0,
      rest_within c.args.mask c.loop-rest.rest c.first_of-channel.result has c.loop-rest.invariant.1,
      cleared_next c.args.mask c.loop-rest.rest c.first_of-channel.result c.args.tracker.now c.loop-rest.tracker has is c.loop-rest.invariant.0
          c.loop-rest.invariant.2,
    )
