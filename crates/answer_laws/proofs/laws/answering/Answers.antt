use Rattle.answer_laws.proofs.Once.{one_answer, one_refusal}
use Rattle.answer_laws.proofs.laws.answering.Goals as goal

pub returns : goal.returns
returns c = record { answer = one_answer; refusal = one_refusal }
