use Rattle.dispatcher.proofs.DispatchTables.Duties.{named_law, anrs_law, anrs_kept_law}
use Rattle.dispatcher.proofs.DispatchTables.Noting.{anrs_go_law}
use Rattle.dispatcher.proofs.dispatch_tables.laws.anrs.Goals as goal

pub returns : goal.returns
returns c = record { named = named_law; tick = anrs_law; others = anrs_kept_law; gone = anrs_go_law }
