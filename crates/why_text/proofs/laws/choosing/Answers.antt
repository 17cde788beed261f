use Rattle.why_text.proofs.RowLaws.{row_law}
use Rattle.why_text.proofs.laws.choosing.Goals as goal

pub returns : goal.returns
returns c = row_law
