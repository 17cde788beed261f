use Rattle.std.proofs.Common.{◌+◌, ◌*◌, length}
use Rattle.replay_actors.proofs.race.+fn-race-scope+race.Given as goal

abbrev pub decreases-scope : goal.decreases-scope
decreases-scope g l = 2 * length l.jobs + 1

abbrev pub decreases-race : goal.decreases-race
decreases-race g l = 2 * length l.jobs
