use Rattle.dispatcher.proofs.DispatchTables.Duties.{quiet_due_law, not_live_due_law, first_due_law}
use Rattle.dispatcher.proofs.DispatchTables.Keeping.{kept_due, dues_law}
use Rattle.dispatcher.proofs.dispatch_tables.laws.dues.Goals as goal

pub returns : goal.returns
returns c = record { kept = kept_due; quiet = quiet_due_law; not_live = not_live_due_law; table = dues_law; first = first_due_law }
