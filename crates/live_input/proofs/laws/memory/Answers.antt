use Rattle.live_input.proofs.Outgoing.{kept_law, anrs_law, vacant_law}
use Rattle.live_input.proofs.laws.memory.Goals as goal

pub returns : goal.returns
returns c = record { messages = kept_law; anrs = anrs_law; vacant = vacant_law }
