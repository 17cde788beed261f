use Rattle.dispatch_history.proofs.KeysKnown.{last_key_law}
use Rattle.dispatch_history.proofs.KeyLaws.{keys_law, keys_come, held_key_law}
use Rattle.dispatch_history.proofs.TermsLaws.{terms_stay}
use Rattle.dispatch_history.proofs.laws.keys.Goals as goal

pub returns : goal.returns
returns c = record { live = keys_law; each = keys_come; held = held_key_law; last = last_key_law; terms = terms_stay }
