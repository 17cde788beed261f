use Rattle.route_split.proofs.Steps.{other_law}
use Rattle.route_split.proofs.laws.steps.Goals as goal

pub returns : goal.returns
returns c = other_law
