use Rattle.std.proofs.Common.{None, sym, ◌∙◌}
use Rattle.std.proofs.lemmas.Bool.{and_parts}
use Rattle.route_split.specs.Marking.{IsChanged}
use Rattle.dispatcher.specs.DispatchRound.Rounds.{is_concerned}
use Rattle.dispatcher.proofs.DispatchChannels.Picking.{channel_low}
use Rattle.dispatcher.proofs.DispatchRound.Reaching.{sends_all, published_gone, published_left}
use Rattle.dispatcher.proofs.DispatchRound.Steadily.{is_whole, still_rests, published_steady}
use Rattle.dispatcher.proofs.dispatch_round.steady.send_steady.Goals as goal

pub send_each-requires-clause-opened : goal.send_each-requires-clause-opened
send_each-requires-clause-opened c w has = c.requires.outgoing.opened w has

pub send_each-requires-clause-live : goal.send_each-requires-clause-live
send_each-requires-clause-live c w has = (and_parts (is_concerned c.args.touches.now c.args.round.now w) _ (sym (c.requires.outgoing.are w) ∙ has)).1

pub returns-clause-changes : goal.returns-clause-changes
returns-clause-changes c = still_rests c.args.touches.now c.args.round.now c.args.place c.requires.steady c.rest.ensures

pub returns-clause-outgoing : goal.returns-clause-outgoing
returns-clause-outgoing c s e h holds =
    let r = c.args.round.now in
    let ts = c.args.touches.now in
    let by : IsChanged ts ts r.mark None = record {
      holds_are = λ w d i. (still_rests ts r c.args.place c.requires.steady c.rest.ensures d).hold w i;
      losses_are = tt;
    } in
    sends_all c.args.covers.now s e r ts ts None c.args.outgoing c.args.origins.now c.args.clock c.args.channels.now c.send_each.new.channels c.publish.new.self
    (is_whole r c.requires.steady) c.requires.outgoing.are c.send_each.ensures.each c.publish.ensures by h holds

pub returns-clause-gone : goal.returns-clause-gone
returns-clause-gone c k low =
    published_gone _ c.args.clock c.send_each.new.channels c.publish.new.self c.publish.ensures k low ∙ c.send_each.ensures.each.gone_is k low

pub returns-clause-anrs : goal.returns-clause-anrs
returns-clause-anrs c = c.publish.ensures.anrs_are ∙ c.send_each.ensures.each.anrs_are

pub returns-clause-spends : goal.returns-clause-spends
returns-clause-spends c w has =
    published_steady c.args.round.now c.args.outgoing c.args.clock c.args.channels.now c.send_each.new.channels c.publish.new.self c.publish.ensures w (channel_low c.args.outgoing w has)
    (c.send_each.ensures.spends w has)

pub returns-clause-left : goal.returns-clause-left
returns-clause-left c w from out =
    published_left c.args.covers.now c.args.round.now _ _ c.args.outgoing c.args.origins.now c.args.clock c.args.channels.now c.send_each.new.channels c.publish.new.self c.send_each.ensures.each c.publish.ensures w
    from out

pub returns-clause-live : goal.returns-clause-live
returns-clause-live c = c.publish.ensures.live_is ∙ c.send_each.ensures.each.live_is
