use Rattle.replay_actors.proofs.Races.{race_law}
use Rattle.replay_actors.proofs.laws.racing.Goals as goal

pub returns : goal.returns
returns c = race_law
