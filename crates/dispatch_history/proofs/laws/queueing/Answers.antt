use Rattle.dispatch_history.proofs.QueueLaws.{queue_law, device_law}
use Rattle.dispatch_history.proofs.laws.queueing.Goals as goal

pub returns : goal.returns
returns c = record { queue = queue_law; devices = device_law }
