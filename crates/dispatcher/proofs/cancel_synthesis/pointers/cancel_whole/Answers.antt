use Rattle.std.proofs.Common.{◌++◌, List, map, slice_get, sym, ap, ◌∙◌}
use Rattle.input_types.specs.declared.message.Body.TheVariants.{Motion as MotionBody}
use Rattle.input_types.specs.declared.motion.Motion.{Motion}
use Rattle.dispatcher.proofs.CancelSynthesis.CancelSteps.{whole_sent}
use Rattle.dispatcher.proofs.cancel_synthesis.pointers.cancel_whole.Goals as goal

pub returns-in_ok-push : goal.returns-in_ok-push
returns-in_ok-push c =
    let first = sym c.in-Some.is ∙ c.next.ensures.first ∙ ap (λ (ms : List Motion). slice_get ms 0) c.new-cancels.ensures in
    c.in_ok-push.ensures.items
    ∙ sym (ap (λ (ms : List Motion). c.args.out.now.items ++ map MotionBody ms)
    (whole_sent c.args.device c.args.had.now c.empty.result c.in-Some.cancel c.empty.ensures first))
