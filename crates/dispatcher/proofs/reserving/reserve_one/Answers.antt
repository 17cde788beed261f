-- There is as much room as is needed.
use Rattle.std.proofs.Common.{length, ap, ◌∙◌}
use Rattle.dispatcher.specs.DispatchChannels.Table.{but_for_room}
use Rattle.dispatcher.proofs.DispatchRound.Rooms.{same_but_room}
use Rattle.dispatcher.proofs.Room.Oks.{on_ok}
use Rattle.dispatcher.proofs.Room.RoomMade.{more_room, made_room}
use Rattle.dispatcher.proofs.reserving.reserve_one.Goals as goal

pub returns-clause-same : goal.returns-clause-same
returns-clause-same c =
    let t = c.args.routing.now.channels in
    more_room c.args.routing.now c.reserve.new.self c.reserve-2.new.self
    (ap but_for_room c.in_ok-reserve.ensures.ok ∙ same_but_room c.args.channel c.in_ok-count.count t)
    c.in_ok-reserve.ensures.room
    c.reserve-2.ensures.more

pub returns-clause-ok : goal.returns-clause-ok
returns-clause-ok c =
    let t = c.args.routing.now.channels in
    on_ok _ _ c.reserve-2.result c.reserve-2.ensures.ok
    (λ fits lives.
    made_room c.args.n (length c.keys-keys.result.now) c.in_ok-count.count c.reserve-2.new.self c.args.channel t c.reserve.new.self c.in_ok-reserve.ensures.ok c.requires.0 c.requires.1
    c.opened-opened.ensures.as_many
    c.in_ok-count.ensures.value
    c.in_ok-count.ensures.small
    (ap length (c.keys-keys.ensures ∙ ap (λ i. i.keys) c.input.ensures))
    fits)
