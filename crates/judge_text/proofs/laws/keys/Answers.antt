use Rattle.judge_text.proofs.HeldKeys.{due_exactly, keys_rise}
use Rattle.judge_text.proofs.laws.keys.Goals as goal

pub returns : goal.returns
returns c = λ past s is. (keys_rise past, λ device scan. due_exactly past s device scan is)
