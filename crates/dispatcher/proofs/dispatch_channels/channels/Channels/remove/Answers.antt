use Rattle.std.proofs.Common.{◌≤◌, arith}
use Rattle.dispatcher.proofs.DispatchChannels.Picking.{has_one}
use Rattle.dispatcher.proofs.DispatchChannels.Wholes.{whole_removed}
use Rattle.dispatcher.proofs.dispatch_channels.channels.Channels.remove.Goals as goal

pub invariant_of-self : goal.invariant_of-self
invariant_of-self c =
    let opened = rw (← c.self.view_is) at c.requires in
    let high : c.args.channel ≤ 64 = omega (arith, opened.1, c.self.invariant.few) in
    rw (c.without-self-inside.ensures, c.without-self-inside-2.ensures, c.clear.ensures)
    (whole_removed _ _ _ _ _ c.args.channel _ c.self.invariant (has_one c.args.channel opened.0 high))
