use Rattle.dispatcher.proofs.KeyTables.Saying.{said_parts}
use Rattle.dispatcher.proofs.KeyTables.Sending.{keys_quiet, target_sent_law}
use Rattle.dispatcher.proofs.key_tables.laws.sending.Goals as goal

pub returns : goal.returns
returns c = record { parts = said_parts; quiet = keys_quiet; target = target_sent_law }
