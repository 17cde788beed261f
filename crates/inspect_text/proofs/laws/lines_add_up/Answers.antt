use Rattle.inspect_text.proofs.Sums.{lines_law}
use Rattle.inspect_text.proofs.laws.lines_add_up.Goals as goal

pub returns : goal.returns
returns c = lines_law
