use Rattle.live_input.proofs.Reached.{chosen_law, touched_law}
use Rattle.live_input.proofs.window_at.laws.Goals as goal

pub returns : goal.returns
returns c = record { touched = touched_law; chosen = chosen_law }
