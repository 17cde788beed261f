use Rattle.compare_text.proofs.Matching.{reflexive_law}
use Rattle.compare_text.proofs.laws.reflexive.Goals as goal

pub returns : goal.returns
returns c = reflexive_law
