use Rattle.command_words.proofs.Faulty.{same_faulty}
use Rattle.command_words.proofs.laws.faults.Goals as goal

pub returns : goal.returns
returns c = same_faulty
