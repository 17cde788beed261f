use Rattle.dispatch_history.proofs.LegalLaws.{legal_last, legal_more, legal_unique, replay_law, legal_replay, effects_law}
use Rattle.dispatch_history.proofs.laws.legality.Goals as goal

pub returns : goal.returns
returns c = record { last = legal_last; more = legal_more; unique = legal_unique; replay = replay_law; again = legal_replay; past = effects_law }
