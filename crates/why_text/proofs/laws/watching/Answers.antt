use Rattle.why_text.proofs.OutsideLaws.{outside_law}
use Rattle.why_text.proofs.laws.watching.Goals as goal

pub returns : goal.returns
returns c = outside_law
