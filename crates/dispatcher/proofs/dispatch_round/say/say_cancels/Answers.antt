use Rattle.std.proofs.Common.{sym, ◌∙◌}
use Rattle.dispatcher.specs.CancelSynthesis.Cancelling.{still_sent}
use Rattle.dispatcher.proofs.DispatchRound.Stepping.{motions_next, motions_less, motions_shrink, motions_none}
use Rattle.dispatcher.proofs.dispatch_round.say.say_cancels.Goals as goal

pub loop-cancel-smaller : goal.loop-cancel-smaller
loop-cancel-smaller c = motions_shrink (still_sent c.loop-cancel.left) c.in-Some.cancel (still_sent c.next.new.self) (sym c.in-Some.is ∙ c.next.ensures.first) c.next.ensures.others

pub loop-cancel-preserved : goal.loop-cancel-preserved
loop-cancel-preserved c =
    let first = sym c.in-Some.is ∙ c.next.ensures.first in (
      motions_less c.args.to.now (still_sent c.loop-cancel.left) c.in-Some.cancel (still_sent c.next.new.self) c.loop-cancel.channels c.say_motion.new.channels
          first c.next.ensures.others c.say_motion.ensures c.loop-cancel.invariant.0,
      λ u rest. c.loop-cancel.invariant.1 u
          (motions_next c.args.to.now (still_sent c.loop-cancel.left) c.in-Some.cancel (still_sent c.next.new.self) c.loop-cancel.channels c.say_motion.new.channels u
          first c.next.ensures.others c.say_motion.ensures rest),
    )

pub returns : goal.returns
returns c =
    c.loop-cancel.invariant.1 c.loop-cancel.channels
    (motions_none c.args.to.now (still_sent c.loop-cancel.left) c.loop-cancel.channels (sym c.in_default.is ∙ c.next.ensures.first))
