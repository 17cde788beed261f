use Rattle.std.proofs.Common.{◌≡◌, ℕ, nat_le, ◌&&◌}
use Rattle.dispatcher.specs.AnrTracker.Due.{due_of}
use Rattle.window_snapshot.specs.Mask.{mask_has}
use Rattle.dispatch_history.specs.Reply.{is_due}
use Rattle.dispatcher.proofs.dispatch_channels.due.due_channels.Given as goal

-- the channels so far that are due
abbrev pub invariant-loop-place : goal.invariant-loop-place
invariant-loop-place l = (c : ℕ) → mask_has l.mask c ≡ (nat_le c l.place && is_due (due_of l.tracker c) l.now)
