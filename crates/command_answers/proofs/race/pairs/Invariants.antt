use Rattle.std.proofs.Common.{◌≡◌, map}
use Rattle.command_answers.proofs.race.pairs.Given as goal

-- the pairs of the args so far
abbrev pub invariant-loop-cooked : goal.invariant-loop-cooked
invariant-loop-cooked l = l.given.items ≡ map (λ a. (a.moment, a.args)) l.yielded
