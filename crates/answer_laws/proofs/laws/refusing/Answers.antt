use Rattle.answer_laws.proofs.Alike.{inspect_refuses, replay_refuses}
use Rattle.answer_laws.proofs.Same.{why_refuses}
use Rattle.answer_laws.proofs.laws.refusing.Goals as goal

pub returns : goal.returns
returns c = record { inspect = inspect_refuses; replay = replay_refuses; why = why_refuses }
