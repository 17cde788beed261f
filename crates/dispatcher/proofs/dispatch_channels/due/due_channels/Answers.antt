use Rattle.std.proofs.Common.{◌<◌, arith}
use Rattle.dispatcher.specs.AnrTracker.Due.{due_of}
use Rattle.dispatch_history.specs.Reply.{is_due}
use Rattle.dispatcher.proofs.DispatchChannels.Lateness.{due_next}
use Rattle.dispatcher.proofs.dispatch_channels.due.due_channels.Goals as goal

pub loop-place-preserved : goal.loop-place-preserved
loop-place-preserved c =
    let within : c.loop-place.place < 64 = omega (arith, c.loop-place-test.true, c.requires) in
    rw (c.with_if-mask.ensures, c.is_due.ensures, c.due.ensures)
    (due_next (λ k. is_due (due_of c.args.tracker.now k) c.args.now) c.loop-place.mask c.loop-place.place within c.loop-place.invariant)
