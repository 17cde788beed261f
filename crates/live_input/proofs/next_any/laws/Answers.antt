use Rattle.live_input.proofs.Ordering.{none_law}
use Rattle.live_input.proofs.Handouts.{clients_law, earliest_law}
use Rattle.live_input.proofs.next_any.laws.Goals as goal

pub returns : goal.returns
returns c = record { none = none_law; earliest = earliest_law; clients = clients_law }
