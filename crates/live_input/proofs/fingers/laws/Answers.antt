use Rattle.live_input.proofs.Fitting.{fitting_law, refused_law}
use Rattle.live_input.proofs.Panels.{packet_law, quiet_law}
use Rattle.live_input.proofs.fingers.laws.Goals as goal

pub returns : goal.returns
returns c = record { quiet = quiet_law; packet = packet_law; refused = refused_law; fitting = fitting_law }
