use Rattle.dispatcher.proofs.DispatchTables.Keeping.{kept_quiet, kept_less, held_less, may_go_law}
use Rattle.dispatcher.proofs.DispatchTables.Unopened.{not_live_law}
use Rattle.dispatcher.proofs.DispatchTables.Silence.{silent_calls}
use Rattle.dispatcher.proofs.dispatch_tables.laws.quiet_channels.Goals as goal

pub returns : goal.returns
returns c = record { quiet = kept_quiet; not_live = not_live_law; less = kept_less; held_less = held_less; may_go = may_go_law; silent = silent_calls }
