use Rattle.std.proofs.Common.{length}
use Rattle.replay_actors.proofs.race.+deal.Given as goal

abbrev pub decreases-deal : goal.decreases-deal
decreases-deal l = length l.parts
