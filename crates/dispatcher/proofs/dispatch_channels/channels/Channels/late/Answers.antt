use Rattle.std.proofs.Common.{◌<◌, Some, arith}
use Rattle.dispatcher.specs.AnrTracker.Due.{due_of}
use Rattle.window_snapshot.specs.Mask.{mask_has}
use Rattle.dispatcher.specs.DispatchTables.Dues.{due_in}
use Rattle.dispatcher.specs.DispatchChannels.Table.{channel_in}
use Rattle.dispatcher.proofs.DispatchChannels.Lateness.{first_as, none_due_yet}
use Rattle.dispatcher.proofs.dispatch_channels.channels.Channels.late.Goals as goal

pub returns-then-get-moment : goal.returns-then-get-moment
returns-then-get-moment c =
    let early : c.args.now < c.in-Some.moment = omega (arith, c.if-get-moment.true, c.get.ensures.value) in
    let first =
    first_as (due_of c.self.inside.tracker) (λ j. due_in (mask_has c.self.inside.able j) (channel_in c.self.inside.channels.items j))
    c.self.invariant.dues_are
    (Some (c.in-Some.moment, c.in-Some.field-0-1))
    c.in-Some.ensures in
    λ k. rw (← c.self.view_is)
    (none_due_yet (λ j. due_in (mask_has c.self.inside.able j) (channel_in c.self.inside.channels.items j)) c.args.now k
    (c.in-Some.moment, c.in-Some.field-0-1)
    first
    early)
