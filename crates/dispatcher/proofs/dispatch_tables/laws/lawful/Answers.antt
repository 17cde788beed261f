use Rattle.dispatcher.proofs.DispatchTables.Lawfuls.{lawful_effects, lawful_step, lawful_last}
use Rattle.dispatcher.proofs.dispatch_tables.laws.lawful.Goals as goal

pub returns : goal.returns
returns c = record { effects = lawful_effects; step = lawful_step; last = lawful_last }
