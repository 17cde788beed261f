use Rattle.text_lines.proofs.Newlines.{before_newline, no_newline}
use Rattle.text_lines.proofs.lines.line_len.Goals as goal

pub returns-in-Some-clause-value : goal.returns-in-Some-clause-value
returns-in-Some-clause-value c = before_newline c.args.bytes.now c.in-Some.place c.in-Some.ensures

pub returns-in-None-clause-value : goal.returns-in-None-clause-value
returns-in-None-clause-value c = no_newline c.args.bytes.now c.in-None.ensures
