use Rattle.dispatcher.proofs.AnrTracker.Least.{table_with}
use Rattle.dispatcher.proofs.anr_tracker.tracker.Tracker.set.Goals as goal

pub invariant_of-self : goal.invariant_of-self
invariant_of-self c =
    rw (c.least_with-self-inside.ensures, c.mask_with-self-inside.ensures)
    (table_with c.self.inside.dues c.self.inside.least c.self.inside.pending c.args.due c.args.channel c.self.invariant c.requires.0 c.requires.1)
