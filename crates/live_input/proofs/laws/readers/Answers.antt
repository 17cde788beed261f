use Rattle.live_input.proofs.Fed.{fed_first, fed_law, fed_stays}
use Rattle.live_input.proofs.laws.readers.Goals as goal

pub returns : goal.returns
returns c = record { first = fed_first; fed = fed_law; stays = fed_stays }
