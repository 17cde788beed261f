use Rattle.compare_text.proofs.Matching.{symmetric_law}
use Rattle.compare_text.proofs.laws.symmetric.Goals as goal

pub returns : goal.returns
returns c = symmetric_law
