use Rattle.std.proofs.Common.{◌≡◌, ◌≤◌, ℕ, true, false, length}
use Rattle.window_snapshot.specs.Mask.{mask_has}
use Rattle.dispatcher.specs.DispatchChannels.Table.{opened, but_for_room, NoLessRoom}
use Rattle.dispatcher.proofs.DispatchChannels.Moved.{reached}
use Rattle.dispatcher.specs.DispatchRound.Rounds.{HasMadeRoom, IsLeft, IsFew}
use Rattle.dispatcher.proofs.dispatch_round.room.make_room.Given as goal

-- room is made in the windows that were reached, and the others are as they were
abbrev pub invariant-loop-rest : goal.invariant-loop-rest
invariant-loop-rest l =
    ((w : ℕ) → mask_has l.rest w ≡ true → mask_has l.initial.rest w ≡ true)
    × (but_for_room l.channels ≡ but_for_room l.initial.channels)
    × (l.channels.live ≡ l.initial.channels.live)
    × (opened l.channels ≡ opened l.initial.channels)
    × (length l.channels.inputs ≡ opened l.channels)
    × ((w : ℕ) → reached l.initial.rest l.rest w ≡ true → HasMadeRoom l.round l.initial.channels l.channels w)
    × ((w : ℕ) → 1 ≤ w → reached l.initial.rest l.rest w ≡ false → IsLeft l.initial.channels l.channels w)
    × NoLessRoom l.initial.channels l.channels
    × ((w : ℕ) → reached l.initial.rest l.rest w ≡ true → IsFew l.round l.initial.channels w)

abbrev pub decreases-loop-rest : goal.decreases-loop-rest
decreases-loop-rest l = l.rest
