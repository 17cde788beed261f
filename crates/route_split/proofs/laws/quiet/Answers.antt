use Rattle.route_split.proofs.Quiet.{quiet_law}
use Rattle.route_split.proofs.laws.quiet.Goals as goal

pub returns : goal.returns
returns c = quiet_law
