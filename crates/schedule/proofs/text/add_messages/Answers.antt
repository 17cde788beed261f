-- One message more.
use Rattle.schedule.proofs.Written.{message_more}
use Rattle.schedule.proofs.text.add_messages.Goals as goal

pub loop-message-preserved : goal.loop-message-preserved
loop-message-preserved c =
    message_more c.args.text.now.items c.loop-message.text.items c.message_text.new.out.items c.args.messages.now c.loop-message.message-index c.message-item.result
    c.loop-message-test.true c.message-item.is c.loop-message.invariant c.in_ok-message_text.ensures.ok
