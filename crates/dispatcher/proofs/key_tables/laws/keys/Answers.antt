use Rattle.dispatcher.proofs.KeyTables.Holders.{keys_of_target}
use Rattle.dispatcher.proofs.KeyTables.Rising.{keys_rise}
use Rattle.dispatcher.proofs.KeyTables.Tracking.{bodies_tracked_law}
use Rattle.dispatcher.proofs.KeyTables.Lasting.{keys_at_first, keys_step}
use Rattle.dispatcher.proofs.key_tables.laws.keys.Goals as goal

pub returns : goal.returns
returns c = record { target = keys_of_target; rising = keys_rise; first = keys_at_first; bodies = bodies_tracked_law; step = keys_step }
