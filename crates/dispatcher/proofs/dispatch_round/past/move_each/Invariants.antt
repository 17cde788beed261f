use Rattle.std.proofs.Common.{◌≡◌, ℕ, ◌&&◌, true}
use Rattle.window_snapshot.specs.Mask.{mask_has}
use Rattle.dispatcher.specs.DispatchRound.Past.{PassesEach}
use Rattle.dispatcher.proofs.DispatchChannels.Moved.{reached}
use Rattle.dispatcher.proofs.DispatchRound.Passing.{some_held}
use Rattle.dispatcher.proofs.dispatch_round.past.move_each.Given as goal

-- the Move bypassed the channels that were reached
abbrev pub invariant-loop-rest : goal.invariant-loop-rest
invariant-loop-rest l =
    ((w : ℕ) → mask_has l.rest w ≡ true → mask_has l.outgoing w ≡ true)
    × ((w : ℕ) → mask_has l.sent w ≡ (reached l.outgoing l.rest w && some_held l.touches l.motion w))
    × PassesEach l.touches l.motion (reached l.outgoing l.rest) l.initial.channels l.channels

abbrev pub decreases-loop-rest : goal.decreases-loop-rest
decreases-loop-rest l = l.rest
