use Rattle.live_input.proofs.Knowing.{knows_closed, knows_eased, knows_first, knows_shown, knows_stays}
use Rattle.live_input.proofs.laws.shown.Goals as goal

pub returns : goal.returns
returns c = record { first = knows_first; eased = knows_eased; shows = knows_shown; stays = knows_stays; closed = knows_closed }
