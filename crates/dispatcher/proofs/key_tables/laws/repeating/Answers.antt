use Rattle.dispatcher.proofs.KeyTables.Sending.{repeat_read}
use Rattle.dispatcher.proofs.KeyTables.Repeating.{repeat_step, repeat_left}
use Rattle.dispatcher.proofs.key_tables.laws.repeating.Goals as goal

pub returns : goal.returns
returns c = record { read = repeat_read; step = repeat_step; left = repeat_left }
