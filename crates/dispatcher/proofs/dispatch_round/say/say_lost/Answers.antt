use Rattle.std.proofs.Common.{ap, length, arith}
use Rattle.bits32.specs.Set.{is_in}
use Rattle.dispatcher.specs.CancelSynthesis.Cancelling.{still_sent}
use Rattle.dispatcher.specs.CancelSynthesis.Tracked.{pointers_of}
use Rattle.dispatcher.proofs.DispatchRound.Stepping.{few_cancels}
use Rattle.dispatcher.proofs.dispatch_round.say.say_lost.Goals as goal

pub say_cancels-requires : goal.say_cancels-requires
say_cancels-requires c =
    let d = c.args.device in
    let same = ap (λ i. length (pointers_of i d)) c.input.ensures in
    few_cancels d (λ i. is_in i c.args.lost) c.args.to.now.window (still_sent c.cancels-cancels.result) (pointers_of c.input.result.now d) _ c.args.channels.now
    c.cancels-cancels.ensures
    (omega (arith, same))
    c.requires
