use Rattle.live_input.proofs.Settled.{done_law, later_law}
use Rattle.live_input.proofs.laws.settling.Goals as goal

pub returns : goal.returns
returns c = record { later = later_law; done = done_law }
