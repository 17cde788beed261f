use Rattle.dispatcher.proofs.DispatchTables.Kept.{numbered_law}
use Rattle.dispatcher.proofs.DispatchTables.Keeping.{kept_facts, kept_step, kept_ready, kept_unopened}
use Rattle.dispatcher.proofs.dispatch_tables.laws.channels.Goals as goal

pub returns : goal.returns
returns c = record { facts = kept_facts; numbers = numbered_law; step = kept_step; ready = kept_ready; unopened = kept_unopened }
