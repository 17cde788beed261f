use Rattle.why_text.proofs.NoOpLaws.{silent_law}
use Rattle.why_text.proofs.laws.resting.Goals as goal

pub returns : goal.returns
returns c = silent_law
