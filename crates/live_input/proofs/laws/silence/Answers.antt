use Rattle.live_input.proofs.Silence.{sent_nothing}
use Rattle.live_input.proofs.laws.silence.Goals as goal

pub returns : goal.returns
returns c = sent_nothing
