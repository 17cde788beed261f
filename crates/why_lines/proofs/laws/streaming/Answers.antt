use Rattle.why_lines.proofs.Streaming.{down_law, no_down_law}
use Rattle.why_lines.proofs.laws.streaming.Goals as goal

pub returns-clause-motions : goal.returns-clause-motions
returns-clause-motions c = down_law

pub returns-clause-others : goal.returns-clause-others
returns-clause-others c = no_down_law
