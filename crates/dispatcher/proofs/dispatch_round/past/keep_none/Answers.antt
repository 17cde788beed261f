use Rattle.std.proofs.Common.{sym, ◌∙◌}
use Rattle.dispatcher.proofs.DispatchChannels.Picking.{less_without}
use Rattle.dispatcher.proofs.DispatchChannels.Moved.{rest_within}
use Rattle.dispatcher.proofs.DispatchRound.PassingEach.{kept_none, none_next}
use Rattle.dispatcher.proofs.dispatch_round.past.keep_none.Goals as goal

pub loop-rest-smaller : goal.loop-rest-smaller
loop-rest-smaller c = rw c.without-rest.ensures (less_without c.loop-rest.rest c.first_of-window.result c.first_of-window.ensures.has)

pub loop-rest-preserved : goal.loop-rest-preserved
loop-rest-preserved c =
    let k = c.first_of-window.result in
    let has = c.first_of-window.ensures.has in
    rw c.without-rest.ensures (
      rest_within c.args.mask c.loop-rest.rest k has c.loop-rest.invariant.0,
      none_next c.args.mask c.loop-rest.rest k c.args.channels.now has (kept_none _ (sym c.keeps_none.ensures ∙ c.if-not-keeps_none.false)) c.loop-rest.invariant.1,
    )
