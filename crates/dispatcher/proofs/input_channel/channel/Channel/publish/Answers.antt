use Rattle.dispatcher.proofs.InputChannel.Delivering.{published_channel, published_is}
use Rattle.dispatcher.proofs.input_channel.channel.Channel.publish.Goals as goal

pub invariant_of-self : goal.invariant_of-self
invariant_of-self c =
    rw c.deliver.ensures
    (published_channel _ c.args.clock c.min-count.result c.self.invariant
    (rw (← c.self.view_is) at c.requires)
    (rw (c.len.ensures.value, c.sent.ensures) at c.min-count.ensures))

pub returns : goal.returns
returns c =
    rw (← c.self.view_is, c.deliver.ensures)
    (published_is _ c.args.clock c.min-count.result c.self.invariant
    (rw (c.len.ensures.value, c.sent.ensures) at c.min-count.ensures))
