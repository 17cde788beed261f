use Rattle.std.proofs.Common.{◌≡◌, length}
use Rattle.route_split.proofs.Changing.{AllFresh}
use Rattle.route_split.proofs.marking.fresh_states.Given as goal

-- so many tables, in which no window holds anything
abbrev pub invariant-loop-number : goal.invariant-loop-number
invariant-loop-number l = (length l.states.items ≡ l.number) × AllFresh l.states.items
