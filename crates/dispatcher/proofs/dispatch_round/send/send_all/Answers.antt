use Rattle.std.proofs.Common.{sym, ◌∙◌}
use Rattle.std.proofs.lemmas.Bool.{and_parts}
use Rattle.route_split.specs.Marking.{IsChanged}
use Rattle.dispatcher.specs.DispatchRound.Rounds.{is_concerned}
use Rattle.dispatcher.proofs.DispatchChannels.Picking.{channel_low}
use Rattle.dispatcher.proofs.DispatchRound.Reaching.{sends_all, published_gone, published_spends, published_left}
use Rattle.dispatcher.proofs.dispatch_round.send.send_all.Goals as goal

pub change_and_send-requires-clause-opened : goal.change_and_send-requires-clause-opened
change_and_send-requires-clause-opened c w has = c.requires.outgoing.opened w has

pub change_and_send-requires-clause-live : goal.change_and_send-requires-clause-live
change_and_send-requires-clause-live c w has = (and_parts (is_concerned c.args.touches.now c.args.round.now w) _ (sym (c.requires.outgoing.are w) ∙ has)).1

pub change_and_send-requires-clause-room : goal.change_and_send-requires-clause-room
change_and_send-requires-clause-room c w has =
    let both = and_parts (is_concerned c.args.touches.now c.args.round.now w) _ (sym (c.requires.outgoing.are w) ∙ has) in
    c.requires.ready w both.1 both.0

pub returns-clause-outgoing : goal.returns-clause-outgoing
returns-clause-outgoing c s e h holds =
    let outgoing = c.change_and_send.ensures.outgoing in
    let by : IsChanged c.args.touches.now c.change_and_send.new.touches c.args.round.now.mark outgoing.losses = record {
      holds_are = λ w d i. (c.change_and_send.ensures.changes d).hold w i;
      losses_are = outgoing.losses_are;
    } in
    sends_all c.args.covers.now s e c.args.round.now c.args.touches.now c.change_and_send.new.touches outgoing.losses c.args.outgoing c.args.origins.now c.args.clock c.args.channels.now
    c.change_and_send.new.channels c.publish.new.self c.requires.whole c.requires.outgoing.are outgoing.gets c.publish.ensures by h holds

pub returns-clause-gone : goal.returns-clause-gone
returns-clause-gone c k low =
    published_gone _ c.args.clock c.change_and_send.new.channels c.publish.new.self c.publish.ensures k low ∙ c.change_and_send.ensures.outgoing.gets.gone_is k low

pub returns-clause-anrs : goal.returns-clause-anrs
returns-clause-anrs c = c.publish.ensures.anrs_are ∙ c.change_and_send.ensures.outgoing.gets.anrs_are

pub returns-clause-spends : goal.returns-clause-spends
returns-clause-spends c w has =
    published_spends c.args.round.now c.args.outgoing c.args.clock c.args.channels.now c.change_and_send.new.channels c.publish.new.self c.publish.ensures w (channel_low c.args.outgoing w has)
    (c.change_and_send.ensures.outgoing.gets.spends w has)

pub returns-clause-left : goal.returns-clause-left
returns-clause-left c w from out =
    published_left c.args.covers.now c.args.round.now _ _ c.args.outgoing c.args.origins.now c.args.clock c.args.channels.now c.change_and_send.new.channels c.publish.new.self c.change_and_send.ensures.outgoing.gets c.publish.ensures w
    from out

pub returns-clause-live : goal.returns-clause-live
returns-clause-live c = c.publish.ensures.live_is ∙ c.change_and_send.ensures.outgoing.gets.live_is
