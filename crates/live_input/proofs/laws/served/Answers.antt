use Rattle.live_input.proofs.Serving.{asks_served, served_law, shows_served, steps_served}
use Rattle.live_input.proofs.laws.served.Goals as goal

pub returns : goal.returns
returns c = record { most = served_law; steps = steps_served; shows = shows_served; asks = asks_served }
