use Rattle.dispatch_history.proofs.FocusLaws.{focus_law, focus_comes}
use Rattle.dispatch_history.proofs.laws.focusing.Goals as goal

pub returns : goal.returns
returns c = record { live = focus_law; each = focus_comes }
