use Rattle.routing_rules.proofs.SentLaws.{sent_law, quiet_law}
use Rattle.routing_rules.proofs.FitsLaws.{fits_step}
use Rattle.routing_rules.proofs.laws.sending.Goals as goal

pub returns : goal.returns
returns c = record { fits = sent_law; quiet = quiet_law; next = fits_step }
