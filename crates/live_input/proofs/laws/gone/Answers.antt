use Rattle.live_input.proofs.Gone.{gone_law}
use Rattle.live_input.proofs.laws.gone.Goals as goal

pub returns : goal.returns
returns c = gone_law
