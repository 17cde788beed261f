-- Nothing is passed.
use Rattle.std.proofs.Common.{arith}
use Rattle.given_run.proofs.Left.{all_left}
use Rattle.given_run.proofs.lanes.Lanes.new.Goals as goal

pub returns : goal.returns
returns c = λ steps. all_left steps _ 256 c.in_ok-places.ensures (omega arith)
