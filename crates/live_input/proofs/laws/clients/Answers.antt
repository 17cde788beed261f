use Rattle.live_input.proofs.Outgoing.{closed_law, next_law, own_law, own_numbers}
use Rattle.live_input.proofs.laws.clients.Goals as goal

pub returns : goal.returns
returns c = record { own = own_law; numbers = own_numbers; next = next_law; closed = closed_law }
