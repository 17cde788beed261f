use Rattle.inspect_text.proofs.Used.{args_of_used}
use Rattle.inspect_text.proofs.laws.used_events.Goals as goal

pub returns : goal.returns
returns c = args_of_used
