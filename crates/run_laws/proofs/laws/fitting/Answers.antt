use Rattle.run_laws.proofs.Handing.{handed_keep, steps_hand_none}
use Rattle.run_laws.proofs.laws.fitting.Goals as goal

pub returns : goal.returns
returns c = record { args = handed_keep; steps = steps_hand_none }
