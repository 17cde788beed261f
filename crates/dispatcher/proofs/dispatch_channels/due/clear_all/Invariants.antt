use Rattle.std.proofs.Common.{◌≡◌, ℕ, cond, None, length, true}
use Rattle.dispatcher.specs.AnrTracker.Due.{due_of}
use Rattle.window_snapshot.specs.Mask.{mask_has}
use Rattle.dispatcher.proofs.DispatchChannels.Moved.{reached}
use Rattle.dispatcher.proofs.dispatch_channels.due.clear_all.Given as goal

-- the channels that were reached are not due
abbrev pub invariant-loop-rest : goal.invariant-loop-rest
invariant-loop-rest l =
    (length l.tracker ≡ 64)
    × ((c : ℕ) → mask_has l.rest c ≡ true → mask_has l.mask c ≡ true)
    × ((c : ℕ) → due_of l.tracker c ≡ cond (reached l.mask l.rest c) None (due_of l.initial.tracker c))

abbrev pub decreases-loop-rest : goal.decreases-loop-rest
decreases-loop-rest l = l.rest
