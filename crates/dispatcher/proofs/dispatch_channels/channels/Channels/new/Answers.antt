use Rattle.dispatcher.proofs.DispatchChannels.Wholes.{none_whole}
use Rattle.dispatcher.proofs.dispatch_channels.channels.Channels.new.Goals as goal

pub invariant_of-result : goal.invariant_of-result
invariant_of-result c = rw (c.new.ensures.items, c.new-2.ensures.items, c.new-3.ensures) none_whole
