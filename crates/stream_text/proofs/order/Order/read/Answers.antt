use Rattle.stream_text.proofs.OrderAnswers.{answers_again, answers_spelled}
use Rattle.stream_text.proofs.order.Order.read.Goals as goal

pub returns-clause-spelled : goal.returns-clause-spelled
returns-clause-spelled c = answers_spelled c.read_all.result c.args.bytes.now c.read_all.ensures

pub returns-clause-again : goal.returns-clause-again
returns-clause-again c = answers_again c.read_all.result c.args.bytes.now c.read_all.ensures
