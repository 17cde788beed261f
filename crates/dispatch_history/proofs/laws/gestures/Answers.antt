use Rattle.dispatch_history.proofs.MotionLaws.{motions_law, motions_come}
use Rattle.dispatch_history.proofs.laws.gestures.Goals as goal

pub returns : goal.returns
returns c = record { live = motions_law; each = motions_come }
