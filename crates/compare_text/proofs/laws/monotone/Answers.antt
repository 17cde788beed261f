use Rattle.compare_text.proofs.Matching.{monotone_law}
use Rattle.compare_text.proofs.laws.monotone.Goals as goal

pub returns : goal.returns
returns c = monotone_law
