use Rattle.compare_text.proofs.Matching.{agreement_law}
use Rattle.compare_text.proofs.laws.files_agree.Goals as goal

pub returns : goal.returns
returns c = agreement_law
