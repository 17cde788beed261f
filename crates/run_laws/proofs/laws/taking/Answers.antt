-- What is handed in is taken.
use Rattle.run_laws.proofs.GivenKeeps.{given_takes}
use Rattle.run_laws.proofs.OrderedKeeps.{ordered_takes}
use Rattle.run_laws.proofs.laws.taking.Goals as goal

pub returns-clause-ordered : goal.returns-clause-ordered
returns-clause-ordered c = ordered_takes

pub returns-clause-given : goal.returns-clause-given
returns-clause-given c = given_takes
