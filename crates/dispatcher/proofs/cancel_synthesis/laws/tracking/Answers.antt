use Rattle.dispatcher.proofs.CancelSynthesis.Tracking.{tracks_law}
use Rattle.dispatcher.proofs.cancel_synthesis.laws.tracking.Goals as goal

pub returns : goal.returns
returns c = tracks_law
