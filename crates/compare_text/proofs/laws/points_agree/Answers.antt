use Rattle.compare_text.proofs.Matching.{difference_law}
use Rattle.compare_text.proofs.laws.points_agree.Goals as goal

pub returns : goal.returns
returns c = difference_law
