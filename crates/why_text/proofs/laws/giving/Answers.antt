use Rattle.why_text.proofs.GivenLaws.{given_law, others_law}
use Rattle.why_text.proofs.laws.giving.Goals as goal

pub returns : goal.returns
returns c = record { motions = given_law; others = others_law }
