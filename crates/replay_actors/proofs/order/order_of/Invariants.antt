use Rattle.std.proofs.Common.{◌≡◌, ◌++◌, drop}
use Rattle.replay_actors.specs.Texts.{lines_of}
use Rattle.replay_actors.proofs.order.order_of.Given as goal

-- the lines so far, and then those of the calls that are left, are all
abbrev pub invariant-loop-entry : goal.invariant-loop-entry
invariant-loop-entry l = l.order ++ lines_of l.seats (drop l.entry-index l.history) ≡ lines_of l.seats l.history
