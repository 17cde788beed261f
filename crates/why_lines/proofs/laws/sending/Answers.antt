use Rattle.why_lines.proofs.Still.{still_law}
use Rattle.why_lines.proofs.laws.sending.Goals as goal

pub returns : goal.returns
returns c = still_law
