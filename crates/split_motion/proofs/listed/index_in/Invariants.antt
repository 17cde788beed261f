use Rattle.std.proofs.Common.{◌≡◌, ◌+◌, drop}
use Rattle.routing_rules.specs.Outgoing.{index_in}
use Rattle.split_motion.proofs.listed.index_in.Given as goal

abbrev pub invariant-loop-place : goal.invariant-loop-place
invariant-loop-place l = l.place + index_in l.id (drop l.place l.pointers) ≡ index_in l.id l.pointers
