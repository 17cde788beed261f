use Rattle.dispatcher.proofs.DispatchTables.Keeping.{kept_receive, kept_pass, kept_finish, kept_oldest, kept_late, kept_counts}
use Rattle.dispatcher.proofs.dispatch_tables.laws.answers.Goals as goal

pub returns : goal.returns
returns c = record { receive = kept_receive; pass = kept_pass; finish = kept_finish; oldest = kept_oldest; late = kept_late; counts = kept_counts }
