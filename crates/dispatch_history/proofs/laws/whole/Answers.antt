use Rattle.dispatch_history.proofs.WholeLaws.{whole_law, well_formed_law, numbers_law}
use Rattle.dispatch_history.proofs.laws.whole.Goals as goal

pub returns : goal.returns
returns c = record { live = whole_law; each = well_formed_law; numbers = numbers_law }
