use Rattle.dispatcher.proofs.DispatchChannels.Picking.{has_first}
use Rattle.dispatcher.proofs.dispatch_channels.mask.first_of.Goals as goal

pub returns-clause-has : goal.returns-clause-has
returns-clause-has c = (has_first c.args.mask c.requires c.ranges.mask.fits).0
