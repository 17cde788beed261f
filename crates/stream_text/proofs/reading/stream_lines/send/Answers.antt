-- A line that is read can say what it says.
use Rattle.stream_text.proofs.LineTexts.{can_say_where, if_there}
use Rattle.stream_text.proofs.reading.stream_lines.send.Goals as goal

pub returns-clause-says : goal.returns-clause-says
returns-clause-says c = if_there c.follow.result (can_say_where _ _ c.read_line.result c.if-not-read_line.false c.read_line.ensures)
