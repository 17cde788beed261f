use Rattle.dispatcher.proofs.AnrTracker.Firsts.{none-table}
use Rattle.dispatcher.proofs.anr_tracker.tracker.Tracker.new.Goals as goal

pub invariant_of-result : goal.invariant_of-result
invariant_of-result c = rw c.none_due.ensures none-table
