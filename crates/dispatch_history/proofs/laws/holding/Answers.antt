use Rattle.dispatch_history.proofs.FitLaws.{fit_law}
use Rattle.dispatch_history.proofs.HolderLaws.{holder_law}
use Rattle.dispatch_history.proofs.laws.holding.Goals as goal

pub returns : goal.returns
returns c = record { holders = holder_law; fits = fit_law }
