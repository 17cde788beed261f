use Rattle.std.proofs.Common.{◌≡◌, ◌++◌, length}
use Rattle.bits32.specs.Set.{is_in}
use Rattle.dispatcher.specs.CancelSynthesis.Cancelling.{still_sent}
use Rattle.dispatcher.specs.CancelSynthesis.Tracked.{pointers_of}
use Rattle.dispatcher.specs.CancelSynthesis.Ends.{pointers_cancelled}
use Rattle.dispatcher.proofs.cancel_synthesis.state.InputState.cancel_pointers.Given as goal

-- those so far, and those that are still to be sent, are all
abbrev pub invariant-loop-cancel : goal.invariant-loop-cancel
invariant-loop-cancel l =
    l.outgoing.items ++ still_sent l.cancels ≡ pointers_cancelled l.fn.device (λ i. is_in i l.fn.lost) (pointers_of l.fn.self l.fn.device)

abbrev pub decreases-loop-cancel : goal.decreases-loop-cancel
decreases-loop-cancel l = length (still_sent l.cancels)
