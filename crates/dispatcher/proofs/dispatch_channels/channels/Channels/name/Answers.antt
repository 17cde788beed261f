use Rattle.dispatcher.proofs.DispatchChannels.Wholes.{whole_named}
use Rattle.dispatcher.proofs.dispatch_channels.channels.Channels.name.Goals as goal

pub invariant_of-self-2 : goal.invariant_of-self-2
invariant_of-self-2 c =
    rw c.less-self-inside.ensures
    (whole_named _ _ _ _ c.args.mask _ _ c.self.invariant c.ranges.mask.fits c.clear_all.ensures.places c.clear_all.ensures.dues)
