use Rattle.dispatcher.proofs.DispatchTables.Ables.{opened_few, able_law, live_mask_law, able_mask_law}
use Rattle.dispatcher.proofs.dispatch_tables.laws.responding.Goals as goal

pub returns : goal.returns
returns c = record { few = opened_few; able = able_law; live_mask = live_mask_law; able_mask = able_mask_law }
