use Rattle.std.proofs.Common.{◌≡◌, ◌+◌, ◌-◌, ◌++◌}
use Rattle.replay_actors.specs.Race.{seats_from}
use Rattle.replay_actors.proofs.run.script_seats.Given as goal

-- the numbers so far and those that come are all
abbrev pub invariant-seats : goal.invariant-seats
invariant-seats l = l.seats.items ++ seats_from (3 + l.k) (l.scripts - l.k) ≡ seats_from 3 l.scripts
