use Rattle.inspect_text.proofs.Touched.{touch_hint_law}
use Rattle.inspect_text.proofs.laws.touches_are_cooked.Goals as goal

pub returns : goal.returns
returns c = touch_hint_law
