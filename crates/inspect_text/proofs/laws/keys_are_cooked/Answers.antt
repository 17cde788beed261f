use Rattle.inspect_text.proofs.Hinted.{keys_hint_law}
use Rattle.inspect_text.proofs.laws.keys_are_cooked.Goals as goal

pub returns : goal.returns
returns c = keys_hint_law
