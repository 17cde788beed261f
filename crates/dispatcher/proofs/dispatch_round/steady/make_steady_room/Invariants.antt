use Rattle.std.proofs.Common.{◌≡◌, ℕ, true, length}
use Rattle.window_snapshot.specs.Mask.{mask_has}
use Rattle.dispatcher.specs.DispatchChannels.Table.{opened, but_for_room, NoLessRoom}
use Rattle.dispatcher.proofs.DispatchChannels.Moved.{reached}
use Rattle.dispatcher.specs.DispatchRound.Steady.{HasSteadyRoom}
use Rattle.dispatcher.proofs.dispatch_round.steady.make_steady_room.Given as goal

-- the windows that were reached have the room, and none has less than before
abbrev pub invariant-loop-rest : goal.invariant-loop-rest
invariant-loop-rest l =
    ((w : ℕ) → mask_has l.rest w ≡ true → mask_has l.initial.rest w ≡ true)
    × (but_for_room l.channels ≡ but_for_room l.initial.channels)
    × (l.channels.live ≡ l.initial.channels.live)
    × (opened l.channels ≡ opened l.initial.channels)
    × (length l.channels.inputs ≡ opened l.channels)
    × NoLessRoom l.initial.channels l.channels
    × ((w : ℕ) → reached l.initial.rest l.rest w ≡ true → HasSteadyRoom l.round l.channels w)

abbrev pub decreases-loop-rest : goal.decreases-loop-rest
decreases-loop-rest l = l.rest
