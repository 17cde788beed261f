use Rattle.emit_text.proofs.Recording.{records}
use Rattle.emit_text.proofs.laws.recording.Goals as goal

pub returns : goal.returns
returns c = records
