use Rattle.live_input.proofs.Finishing.{through_law}
use Rattle.live_input.proofs.through.laws.Goals as goal

pub returns : goal.returns
returns c = through_law
