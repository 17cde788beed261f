use Rattle.hover_text.proofs.Ordering.{both_kinds}
use Rattle.hover_text.proofs.laws.calls_of_both.Goals as goal

pub returns : goal.returns
returns c = both_kinds
