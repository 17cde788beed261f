use Rattle.std.proofs.Common.{length}
use Rattle.dispatcher.specs.CancelSynthesis.Cancelling.{still_sent}
use Rattle.dispatcher.specs.DispatchChannels.Table.{Table}
use Rattle.dispatcher.specs.DispatchRound.Bodies.{told}
use Rattle.dispatcher.specs.DispatchRound.Saying.{CanBeSent, SendsOne}
use Rattle.dispatcher.proofs.dispatch_round.say.say_cancels.Given as goal

-- once the rest is sent, all is
abbrev pub invariant-loop-cancel : goal.invariant-loop-cancel
invariant-loop-cancel l =
    CanBeSent l.to.window (length (still_sent l.left)) l.channels
    × ((u : Table)
    → SendsOne l.to (told l.to.covers.now l.to.window (still_sent l.left)) l.channels u
    → SendsOne l.to (told l.to.covers.now l.to.window (still_sent l.initial.left)) l.initial.channels u)

abbrev pub decreases-loop-cancel : goal.decreases-loop-cancel
decreases-loop-cancel l = length (still_sent l.left)
