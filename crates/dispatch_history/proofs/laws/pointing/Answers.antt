use Rattle.dispatch_history.proofs.PointerLaws.{one_pointer}
use Rattle.dispatch_history.proofs.laws.pointing.Goals as goal

pub returns : goal.returns
returns c = one_pointer
