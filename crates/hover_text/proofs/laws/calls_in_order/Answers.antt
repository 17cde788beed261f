use Rattle.hover_text.proofs.Ordering.{call_order}
use Rattle.hover_text.proofs.laws.calls_in_order.Goals as goal

pub returns : goal.returns
returns c = call_order
