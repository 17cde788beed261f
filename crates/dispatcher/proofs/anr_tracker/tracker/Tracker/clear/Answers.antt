use Rattle.dispatcher.proofs.AnrTracker.Least.{table_without}
use Rattle.dispatcher.proofs.anr_tracker.tracker.Tracker.clear.Goals as goal

pub invariant_of-self : goal.invariant_of-self
invariant_of-self c =
    table_without c.self.inside.dues c.self.inside.least c.self.inside.pending c.mask_without-self-inside.result c.args.channel
    c.self.invariant
    c.requires.0
    c.requires.1
    c.mask_without-self-inside.ensures.channels
