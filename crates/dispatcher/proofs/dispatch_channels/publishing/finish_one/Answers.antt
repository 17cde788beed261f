use Rattle.dispatcher.proofs.DispatchChannels.Outgoing.{none_after_without}
use Rattle.dispatcher.proofs.dispatch_channels.publishing.finish_one.Goals as goal

pub publish-requires : goal.publish-requires
publish-requires c = rw c.in_ok-finish.ensures.ok (none_after_without c.args.clock c.args.seq c.args.channel.now.unfinished c.requires)
