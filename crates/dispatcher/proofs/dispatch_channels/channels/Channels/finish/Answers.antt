use Rattle.std.proofs.Common.{◌≡◌, length, ap, ◌∙◌}
use Rattle.window_snapshot.specs.Mask.{mask_has}
use Rattle.dispatcher.specs.DispatchTables.Dues.{due_in}
use Rattle.dispatcher.proofs.DispatchChannels.Wholes.{whole_finished, able_cases}
use Rattle.dispatcher.proofs.dispatch_channels.channels.Channels.finish.Goals as goal

pub invariant_of-self-2 : goal.invariant_of-self-2
invariant_of-self-2 c =
    let opened = rw (← c.self.view_is) at c.requires.opened in
    let due : c.due_in-due.result ≡ due_in (mask_has c.able_after-able.result c.args.channel) c.finish_one.new.channel =
    c.due_in-due.ensures ∙ ap (λ b. due_in b c.finish_one.new.channel) c.mask_has.ensures in
    rw (c.set_due.ensures, due)
    (whole_finished c.self.inside.channels.items (length c.self.inside.inputs.items) c.self.inside.live c.self.inside.able c.self.inside.tracker
    c.args.channel
    c.finish_one.new.channel
    c.able_after-able.result
    c.self.invariant
    opened.0
    opened.1
    (able_cases c.self.inside.live c.self.inside.able c.args.channel c.able_after-able.result c.has_late.result
    c.able_after-able.ensures))
