use Rattle.command_words.proofs.Spellings.{same_spelled}
use Rattle.command_words.proofs.laws.spellings.Goals as goal

pub returns : goal.returns
returns c = same_spelled
