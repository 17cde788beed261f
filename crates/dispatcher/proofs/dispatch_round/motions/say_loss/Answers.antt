use Rattle.std.proofs.Common.{ℕ, Bool, List, not, length, ap, ap₂, ◌∙◌, subst, arith}
use mathlib.Core.Path.{fun_ext}
use Rattle.bits32.specs.Set.{is_in}
use Rattle.input_types.specs.declared.motion.Motion.{Motion}
use Rattle.dispatcher.specs.CancelSynthesis.Cancelling.{still_sent}
use Rattle.dispatcher.specs.CancelSynthesis.Ends.{pointers_cancelled}
use Rattle.dispatcher.specs.CancelSynthesis.Tracked.{Tracked, pointers_of}
use Rattle.dispatcher.specs.DispatchRound.Bodies.{told}
use Rattle.dispatcher.specs.DispatchRound.Saying.{SendsOne}
use Rattle.dispatcher.proofs.DispatchRound.Stepping.{few_cancels}
use Rattle.dispatcher.proofs.dispatch_round.motions.say_loss.Goals as goal

pub say_cancels-requires : goal.say_cancels-requires
say_cancels-requires c =
    let d = c.args.device in
    let same = ap (λ i. length (pointers_of i d)) c.input.ensures in
    few_cancels d (λ i. not (is_in i c.held-held.result)) c.args.to.now.window (still_sent c.cancels_but-cancels.result) (pointers_of c.input.result.now d) _ c.args.channels.now
    c.cancels_but-cancels.ensures
    (omega (arith, same))
    c.requires

pub returns : goal.returns
returns c =
    let d = c.args.device in
    subst (λ (ms : List Motion). SendsOne c.args.to.now (told c.args.to.now.covers.now c.args.to.now.window ms) c.args.channels.now c.say_cancels.new.channels)
    (c.cancels_but-cancels.ensures
    ∙ ap₂ (λ (f : ℕ → Bool) (i : Tracked). pointers_cancelled d f (pointers_of i d)) (fun_ext (λ i. ap not (c.held-held.ensures i))) c.input.ensures)
    c.say_cancels.ensures
