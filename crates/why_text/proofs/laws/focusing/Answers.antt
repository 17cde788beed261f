use Rattle.why_text.proofs.NoOpLaws.{focus_law}
use Rattle.why_text.proofs.laws.focusing.Goals as goal

pub returns : goal.returns
returns c = focus_law
