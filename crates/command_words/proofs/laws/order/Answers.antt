use Rattle.command_words.proofs.Places.{same_placed}
use Rattle.command_words.proofs.laws.order.Goals as goal

pub returns : goal.returns
returns c = same_placed
