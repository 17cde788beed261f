use Rattle.std.proofs.Common.{◌≡◌, ℕ, true, []}
use Rattle.window_snapshot.specs.Mask.{mask_has}
use Rattle.dispatcher.specs.DispatchChannels.Table.{channel_of}
use Rattle.dispatcher.proofs.DispatchChannels.Moved.{reached}
use Rattle.dispatcher.proofs.dispatch_round.past.keep_none.Given as goal

-- the channels that were reached keep nothing
abbrev pub invariant-loop-rest : goal.invariant-loop-rest
invariant-loop-rest l =
    ((w : ℕ) → mask_has l.rest w ≡ true → mask_has l.mask w ≡ true)
    × ((w : ℕ) → reached l.mask l.rest w ≡ true → (channel_of l.channels w).messages ≡ [])

abbrev pub decreases-loop-rest : goal.decreases-loop-rest
decreases-loop-rest l = l.rest
