use Rattle.std.proofs.Common.{None}
use Rattle.dispatcher.proofs.dispatch_round.send.change_and_send.Goals as goal

pub returns-in_default-clause-outgoing : goal.returns-in_default-clause-outgoing
returns-in_default-clause-outgoing c = record { losses = None; losses_are = tt; gets = c.send_each.ensures }
