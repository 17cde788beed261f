-- The word of the reason follows the number.
use Rattle.judge_text.specs.Lines.{refusal_line}
use Rattle.replay_engine.proofs.whole.tell_whole.Goals as goal

pub returns-in-Broken : goal.returns-in-Broken
unfolding refusal_line
returns-in-Broken g c = rw (c.in-Broken.is, ← c.word.ensures, ← c.format.ensures.text) c.tell_pair.ensures
