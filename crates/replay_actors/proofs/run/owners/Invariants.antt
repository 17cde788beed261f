use Rattle.std.proofs.Common.{◌≡◌, ◌≤◌, ◌-◌, min}
use Rattle.replay_actors.specs.Plans.{owners_from}
use Rattle.replay_actors.proofs.run.owners.Given as goal

-- the applications from this number on are there
abbrev pub invariant-owners : goal.invariant-owners
invariant-owners l = (l.number ≤ min 4 l.channels) × (l.parts ≡ owners_from l.channels l.finishing l.number (min 4 l.channels - l.number))

abbrev pub decreases-owners : goal.decreases-owners
decreases-owners l = l.number
