use Rattle.why_text.proofs.BlockersLaws.{blockers_law}
use Rattle.why_text.proofs.laws.blocking.Goals as goal

pub returns : goal.returns
returns c = blockers_law
