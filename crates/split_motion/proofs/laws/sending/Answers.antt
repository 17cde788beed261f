use Rattle.split_motion.proofs.SplitLaws.{split_law, given_law, none_law}
use Rattle.split_motion.proofs.Keeping.{keeps_law}
use Rattle.split_motion.proofs.laws.sending.Goals as goal

pub returns : goal.returns
returns c = record { split = split_law; given = given_law; none = none_law; keeps = keeps_law }
