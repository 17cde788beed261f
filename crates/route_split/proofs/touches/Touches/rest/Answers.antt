use Rattle.std.proofs.Common.{subst}
use Rattle.route_split.specs.Tables.{IsTables}
use Rattle.route_split.proofs.Changing.{unchanged_all}
use Rattle.route_split.proofs.touches.Touches.rest.Goals as goal

pub returns : goal.returns
returns c place = unchanged_all c.args.self.now place (subst IsTables c.self.view_is c.self.invariant)
