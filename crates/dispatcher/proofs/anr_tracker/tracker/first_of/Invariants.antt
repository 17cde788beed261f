use Rattle.dispatcher.specs.AnrTracker.Due.{IsFirst, due_of}
use Rattle.dispatcher.proofs.AnrTracker.Firsts.{due_but}
use Rattle.dispatcher.proofs.AnrTracker.Least.{NoneAt}
use Rattle.dispatcher.proofs.anr_tracker.tracker.first_of.Given as goal

-- what comes first of the examined channels, none of which is due at the least moment
abbrev pub invariant-loop-rest : goal.invariant-loop-rest
invariant-loop-rest l = IsFirst (due_but l.rest (due_of l.dues)) l.first × NoneAt (due_of l.dues) l.rest l.least

abbrev pub decreases-loop-rest : goal.decreases-loop-rest
decreases-loop-rest l = l.rest
