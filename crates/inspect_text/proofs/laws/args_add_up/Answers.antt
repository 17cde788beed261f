use Rattle.inspect_text.proofs.Sums.{args_law}
use Rattle.inspect_text.proofs.laws.args_add_up.Goals as goal

pub returns : goal.returns
returns c = args_law
