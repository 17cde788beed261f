use Rattle.touch_state.proofs.Agreeing.{step_law}
use Rattle.touch_state.proofs.laws.following.Goals as goal

pub returns : goal.returns
returns c = step_law
