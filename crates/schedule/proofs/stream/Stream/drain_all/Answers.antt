-- One message more.
use Rattle.schedule.proofs.Written.{message_more}
use Rattle.schedule.proofs.stream.Stream.drain_all.Goals as goal

pub loop-message-preserved : goal.loop-message-preserved
loop-message-preserved c =
    message_more c.args.self.now c.loop-message.self c.drain.new.self c.args.messages.now c.loop-message.message-index c.message-item.result
    c.loop-message-test.true c.message-item.is c.loop-message.invariant c.in_ok-drain.ensures.ok
