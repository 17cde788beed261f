use Rattle.dispatch_history.proofs.TurnLaws.{turns_law, turns_come}
use Rattle.dispatch_history.proofs.laws.turns.Goals as goal

pub returns : goal.returns
returns c = record { live = turns_law; each = turns_come }
