use Rattle.emit_text.proofs.Once.{emitted_once}
use Rattle.emit_text.proofs.laws.one_answer.Goals as goal

pub returns : goal.returns
returns c = emitted_once
