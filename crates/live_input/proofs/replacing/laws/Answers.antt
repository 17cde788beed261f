use Rattle.live_input.proofs.Replaced.{channels_law, others_law, new_law}
use Rattle.live_input.proofs.replacing.laws.Goals as goal

pub returns-clause-channels : goal.returns-clause-channels
returns-clause-channels c = channels_law

pub returns-clause-others : goal.returns-clause-others
returns-clause-others c = others_law

pub returns-clause-new_one : goal.returns-clause-new_one
returns-clause-new_one c = new_law
