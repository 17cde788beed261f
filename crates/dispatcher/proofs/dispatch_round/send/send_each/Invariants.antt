use Rattle.std.proofs.Common.{◌≡◌, ℕ, true}
use Rattle.std.specs.Option.{option_copied}
use Rattle.window_snapshot.specs.Mask.{mask_has}
use Rattle.dispatcher.proofs.DispatchChannels.Moved.{reached}
use Rattle.dispatcher.specs.DispatchRound.Each.{SendsEach}
use Rattle.dispatcher.proofs.dispatch_round.send.send_each.Given as goal

-- the windows that were reached are sent
abbrev pub invariant-loop-rest : goal.invariant-loop-rest
invariant-loop-rest l =
    ((w : ℕ) → mask_has l.rest w ≡ true → mask_has l.outgoing w ≡ true)
    × SendsEach l.covers l.round l.touches (option_copied l.losses) (reached l.outgoing l.rest) l.origins l.clock l.initial.channels l.channels

abbrev pub decreases-loop-rest : goal.decreases-loop-rest
decreases-loop-rest l = l.rest
