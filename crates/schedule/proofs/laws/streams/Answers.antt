use Rattle.schedule.proofs.Formed.{streams_law}
use Rattle.schedule.proofs.laws.streams.Goals as goal

pub returns : goal.returns
returns c = streams_law
