use Rattle.std.proofs.Common.{ℕ, List, length, sym, ap, ap₂, ◌∙◌, subst, arith}
use Rattle.bits32.specs.Set.{is_in}
use Rattle.input_types.specs.declared.motion.Motion.{Motion}
use Rattle.dispatcher.specs.CancelSynthesis.Cancelling.{still_sent}
use Rattle.dispatcher.specs.CancelSynthesis.Ends.{pointers_cancelled}
use Rattle.dispatcher.specs.CancelSynthesis.Tracked.{Tracked, pointers_of}
use Rattle.route_split.specs.declared.mark.Mark.{Mark}
use Rattle.dispatcher.specs.DispatchChannels.Table.{input_of}
use Rattle.dispatcher.specs.DispatchRound.Bodies.{told}
use Rattle.dispatcher.specs.DispatchRound.Saying.{SendsOne, pilfered_from}
use Rattle.dispatcher.proofs.DispatchRound.Stepping.{few_cancels}
use Rattle.dispatcher.proofs.DispatchRound.Cancelling.{one_counted}
use Rattle.dispatcher.proofs.dispatch_round.motions.say_pilfered.Goals as goal

pub say_cancels-requires : goal.say_cancels-requires
say_cancels-requires c =
    let d = c.in-Pilfer.device in
    let same = ap (λ i. length (pointers_of i d)) c.input.ensures in
    let few = one_counted (input_of c.args.channels.now c.args.to.now.window) d in
    few_cancels d (λ i. is_in i c.lost-lost.result) c.args.to.now.window (still_sent c.cancels-cancels.result) (pointers_of c.input.result.now d) _ c.args.channels.now
    c.cancels-cancels.ensures
    (omega (arith, same, few))
    c.requires

pub returns-in-Pilfer : goal.returns-in-Pilfer
returns-in-Pilfer c =
    let d = c.in-Pilfer.device in
    subst (λ (ms : List Motion). SendsOne c.args.to.now (told c.args.to.now.covers.now c.args.to.now.window ms) c.args.channels.now c.say_cancels.new.channels)
    (c.cancels-cancels.ensures
    ∙ ap₂ (λ (n : ℕ) (i : Tracked). pointers_cancelled d (λ j. is_in j n) (pointers_of i d)) c.lost-lost.ensures c.input.ensures
    ∙ sym (ap (λ (k : Mark). pilfered_from k c.args.losses.now c.args.to.now.window (input_of c.args.channels.now c.args.to.now.window)) c.in-Pilfer.is))
    c.say_cancels.ensures
