use Rattle.std.proofs.Common.{refl, sym, ap, ◌∙◌, unwrap_or}
use Rattle.dispatcher.proofs.Made.Timely.{timely_room}
use Rattle.dispatcher.proofs.Rounds.Unkept.{room_after_past, pumps_past}
use Rattle.dispatcher.proofs.past.route_past.Goals as goal

pub send_past-sent-requires-clause-timely : goal.send_past-sent-requires-clause-timely
send_past-sent-requires-clause-timely c =
    timely_room c.args.clock c.args.routing.now.channels c.make_steady_room.new.channels c.in_ok-outgoing.ensures.same c.requires.timely

pub returns-clause-past : goal.returns-clause-past
returns-clause-past c = λ place.
    pumps_past c.args.routing.now c.make_steady_room.new.channels c.send_past-sent.new.channels c.args.motion.now _ c.in_ok-outgoing.outgoing
    c.send_past-sent.result c.args.clock
    (record { mark_is = refl; motion_is = c.requires.moves; watchers_is = refl; lost_is = refl; gained_is = refl })
    (record {
      mark_is = refl;
      motion_is = refl;
      gift_is = tt;
      target_is = c.unwrap_or.ensures ∙ ap (λ o. unwrap_or o 0) c.target.ensures;
      keys_are = refl;
      lost_is = refl;
      gained_is = refl;
    })
    c.requires.device.0
    c.requires.device.1
    c.rest.ensures
    c.in_ok-outgoing.ensures.same
    c.in_ok-outgoing.ensures.outgoing
    (λ w has. c.keep_none.ensures.none c.if-not-keep_none.false w has)
    c.send_past-sent.ensures
    place
    refl
    refl
    c.requires.moves
    (sym c.slips.ensures ∙ c.if-slips.false)

pub returns-clause-roomy : goal.returns-clause-roomy
returns-clause-roomy c n roomy =
    room_after_past c.args.routing.now c.make_steady_room.new.channels c.send_past-sent.new.channels c.args.motion.now _ c.in_ok-outgoing.outgoing
    c.send_past-sent.result c.args.clock
    (record { mark_is = refl; motion_is = c.requires.moves; watchers_is = refl; lost_is = refl; gained_is = refl })
    (record {
      mark_is = refl;
      motion_is = refl;
      gift_is = tt;
      target_is = c.unwrap_or.ensures ∙ ap (λ o. unwrap_or o 0) c.target.ensures;
      keys_are = refl;
      lost_is = refl;
      gained_is = refl;
    })
    c.requires.device.0
    c.requires.device.1
    c.rest.ensures
    c.in_ok-outgoing.ensures.same
    c.in_ok-outgoing.ensures.outgoing
    (λ w has. c.keep_none.ensures.none c.if-not-keep_none.false w has)
    c.send_past-sent.ensures
    n
    c.args.routing.now.cancelled
    roomy
    c.in_ok-outgoing.ensures.room
