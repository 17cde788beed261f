use Rattle.std.proofs.Common.{length}
use Rattle.replay_actors.proofs.race.+gather.Given as goal

abbrev pub decreases-gather : goal.decreases-gather
decreases-gather l = length l.seats
