-- A run is complete.
use Rattle.replay_engine.proofs.Complete.{runs_complete}
use Rattle.replay_engine.proofs.laws.completing.Goals as goal

pub returns : goal.returns
returns c = record { complete = runs_complete }
