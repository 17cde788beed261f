use Rattle.replay_actors.proofs.Spelled.{order_law}
use Rattle.replay_actors.proofs.Tallies.{counts_law}
use Rattle.replay_actors.proofs.laws.ordering.Goals as goal

pub returns : goal.returns
returns c = record { calls = order_law; counts = counts_law }
