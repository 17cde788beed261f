use Rattle.std.proofs.Common.{◌≡◌, ℕ, ◌≤◌, cond, length, true}
use Rattle.dispatcher.specs.InputChannel.State.{published_at}
use Rattle.window_snapshot.specs.Mask.{mask_has}
use Rattle.dispatcher.specs.DispatchChannels.Table.{channel_in}
use Rattle.dispatcher.specs.DispatchChannels.Whole.{DuesAre}
use Rattle.dispatcher.proofs.DispatchChannels.Moved.{reached}
use Rattle.dispatcher.proofs.dispatch_channels.publishing.publish_all.Given as goal

-- the channels that were reached are published
abbrev pub invariant-loop-rest : goal.invariant-loop-rest
invariant-loop-rest l =
    (length l.tracker ≡ 64)
    × ((c : ℕ) → mask_has l.rest c ≡ true → mask_has l.mask c ≡ true)
    × DuesAre l.tracker l.able l.channels
    × ((c : ℕ) → 1 ≤ c
    → channel_in l.channels c
    ≡ cond (reached l.mask l.rest c) (published_at l.clock (channel_in l.initial.channels c)) (channel_in l.initial.channels c))

abbrev pub decreases-loop-rest : goal.decreases-loop-rest
decreases-loop-rest l = l.rest
