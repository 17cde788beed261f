use Rattle.why_text.proofs.PartLaws.{parts_law}
use Rattle.why_text.proofs.laws.parting.Goals as goal

pub returns : goal.returns
returns c = parts_law
