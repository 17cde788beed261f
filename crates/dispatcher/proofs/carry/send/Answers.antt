use Rattle.std.proofs.Common.{refl, sym}
use Rattle.std.proofs.lemmas.Bool.{true≢false}
use Rattle.dispatcher.proofs.Room.Roomy.{room_after_round, most_room}
use Rattle.dispatcher.proofs.Made.Timely.{timely_room}
use Rattle.dispatcher.proofs.carry.send.Goals as goal

pub carry_out-requires-clause-timely : goal.carry_out-requires-clause-timely
carry_out-requires-clause-timely c =
    timely_room c.args.clock c.args.routing.now.channels c.make_room.new.channels c.in_ok-outgoing.ensures.same c.requires.timely

pub returns-in_err-outgoing-clause-calm : goal.returns-in_err-outgoing-clause-calm
returns-in_err-outgoing-clause-calm c = λ none. absurd (true≢false (sym (c.in_err-outgoing.ensures.calm none)))

pub returns-clause-roomy : goal.returns-clause-roomy
returns-clause-roomy c n list roomy modest = (
  refl,
  room_after_round n list c.in_ok-outgoing.outgoing c.args.round.now c.args.routing.now.channels c.make_room.new.channels c.carry_out.new.routing.channels roomy modest c.in_ok-outgoing.ensures.same
      c.in_ok-outgoing.ensures.room
      c.in_ok-outgoing.ensures.few
      c.carry_out.ensures.room.spends
      c.carry_out.ensures.room.left
      c.carry_out.ensures.room.live_is,
)

pub returns-in_err-outgoing-clause-roomy : goal.returns-in_err-outgoing-clause-roomy
returns-in_err-outgoing-clause-roomy c n list roomy modest =
    let rt = c.args.routing.now in
    absurd (true≢false (sym (c.in_err-outgoing.ensures.roomy modest.few (λ w lives _. most_room n list c.args.round.now rt.channels roomy modest w lives))))
