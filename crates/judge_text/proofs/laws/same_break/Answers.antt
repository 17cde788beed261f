use Rattle.judge_text.proofs.WhyBroken.{same_breaks}
use Rattle.judge_text.proofs.laws.same_break.Goals as goal

pub returns : goal.returns
returns c = same_breaks
