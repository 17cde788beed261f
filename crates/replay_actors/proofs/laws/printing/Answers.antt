use Rattle.replay_actors.proofs.Printing.{prints_law}
use Rattle.replay_actors.proofs.laws.printing.Goals as goal

pub returns : goal.returns
returns c = prints_law
