use Rattle.live_input.proofs.Received.{other_finish_law, own_finish_law}
use Rattle.live_input.proofs.finishes.laws.Goals as goal

pub returns : goal.returns
returns c = record { own = own_finish_law; other = other_finish_law }
