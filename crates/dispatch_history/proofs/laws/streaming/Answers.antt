use Rattle.dispatch_history.proofs.StreamLaws.{live_law, stream_step, silent_law}
use Rattle.dispatch_history.proofs.laws.streaming.Goals as goal

pub returns : goal.returns
returns c = record { live = live_law; step = stream_step; silent = silent_law }
