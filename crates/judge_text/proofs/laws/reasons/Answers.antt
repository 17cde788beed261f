use Rattle.stream_judge.proofs.Spelled.{exact}
use Rattle.judge_text.proofs.laws.reasons.Goals as goal

pub returns : goal.returns
returns c = λ s m h. exact s m.body h.body
