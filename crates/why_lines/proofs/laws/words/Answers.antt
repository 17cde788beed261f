use Rattle.why_lines.proofs.Words.{words_law}
use Rattle.why_lines.proofs.laws.words.Goals as goal

pub returns : goal.returns
returns c = words_law
