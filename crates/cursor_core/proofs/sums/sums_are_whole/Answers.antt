use Rattle.cursor_core.proofs.Whole.{sums_whole}
use Rattle.cursor_core.proofs.sums.sums_are_whole.Goals as goal

pub returns : goal.returns
returns c = sums_whole
