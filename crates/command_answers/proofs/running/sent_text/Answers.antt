-- The text of the streams, or that of the causes.
use Rattle.std.proofs.Common.{◌∙◌}
use Rattle.command_answers.proofs.running.sent_text.Goals as goal

pub returns-in-Streams : goal.returns-in-Streams
returns-in-Streams c = λ plan es has count many. rw c.in-Streams.is (c.text_of.ensures plan es (rw c.in-Streams.is at has) count many)

pub returns-in-Causes : goal.returns-in-Causes
returns-in-Causes c = λ plan es has count many. rw c.in-Causes.is (c.of.ensures ∙ c.take_causes.ensures plan es (rw c.in-Causes.is at has))
