use Rattle.why_lines.proofs.Finishing.{finish_law}
use Rattle.why_lines.proofs.laws.finishing.Goals as goal

pub returns : goal.returns
returns c = finish_law
