use Rattle.std.proofs.Common.{◌≤◌, length, refl, ◌∙◌, arith}
use Rattle.std.proofs.lemmas.List.{length-set}
use Rattle.dispatcher.specs.InputChannel.State.{published_at}
use Rattle.dispatcher.proofs.DispatchChannels.Picking.{less_without}
use Rattle.dispatcher.proofs.DispatchChannels.Wholes.{dues_set}
use Rattle.dispatcher.proofs.DispatchChannels.Moved.{rest_within, changed_next}
use Rattle.dispatcher.proofs.dispatch_channels.publishing.publish_all.Goals as goal

pub loop-rest-smaller : goal.loop-rest-smaller
loop-rest-smaller c = rw c.without-rest.ensures (less_without c.loop-rest.rest c.first_of-channel.result c.first_of-channel.ensures.has)

pub loop-rest-preserved : goal.loop-rest-preserved
loop-rest-preserved c =
    let k = c.first_of-channel.result in
    let has = c.first_of-channel.ensures.has in
    let is = c.loop-rest.invariant.1 k has in
    let high : k ≤ length c.loop-rest.channels = omega (arith, c.requires.opened k is, c.loop-rest.auto.channels) in
    let few : length c.loop-rest.channels ≤ 64 = omega (arith, c.requires.few, c.loop-rest.auto.channels) in
    rw (c.without-rest.ensures, c.publish_one.ensures.channels, c.publish_one.ensures.dues) (
      length-set c.loop-rest.tracker _ _ ∙ c.loop-rest.invariant.0,
      rest_within c.args.mask c.loop-rest.rest k has c.loop-rest.invariant.1,
      dues_set c.loop-rest.tracker c.args.able c.args.able c.loop-rest.channels k _ c.loop-rest.invariant.2 c.loop-rest.invariant.0
          c.first_of-channel.ensures.from
          high
          few
          (λ j other. refl),
      changed_next (published_at c.args.clock) c.args.mask c.loop-rest.rest k c.args.channels.now c.loop-rest.channels has is high c.loop-rest.invariant.3,
    )
