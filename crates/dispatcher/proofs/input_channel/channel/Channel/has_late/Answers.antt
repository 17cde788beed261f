use Rattle.dispatcher.proofs.InputChannel.Late.{late_by_first}
use Rattle.dispatcher.proofs.input_channel.channel.Channel.has_late.Goals as goal

pub returns-in-Some : goal.returns-in-Some
returns-in-Some c =
    rw (← c.self.view_is, c.get.ensures.value, c.get-in-Some.ensures.value, c.get-in-Some-2.ensures.value)
    (late_by_first c.self.inside.terms.limit c.args.clock c.self.inside.unfinished.items c.in-Some.oldest.now
    c.self.invariant.in_order
    (rw c.as_slice.ensures.value at c.in-Some.ensures.value))
