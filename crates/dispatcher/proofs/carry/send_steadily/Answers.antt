use Rattle.std.proofs.Common.{List, refl, ap, subst, sym}
use Rattle.std.proofs.lemmas.Bool.{true≢false}
use Rattle.input_types.specs.declared.axis.Pixel.{Pixel}
use Rattle.dispatcher.specs.Carrying.{SendsRound}
use Rattle.dispatcher.proofs.Rounds.Moved.{room_after_steady_round, room_for_steady_round}
use Rattle.dispatcher.proofs.Made.Timely.{timely_room}
use Rattle.dispatcher.proofs.carry.send_steadily.Goals as goal

pub send_steady-requires-clause-timely : goal.send_steady-requires-clause-timely
send_steady-requires-clause-timely c =
    timely_room c.args.clock c.args.routing.now.channels c.make_steady_room.new.channels c.in_ok-outgoing.ensures.same c.requires.timely

pub returns-clause-ok : goal.returns-clause-ok
returns-clause-ok c =
    let old = c.args.routing.now in
    record {
      mid = c.make_steady_room.new.channels;
      same = c.in_ok-outgoing.ensures.same;
      carries =
          record {
            touches = c.send_steady.ensures.changes;
            covers = c.give.ensures;
            channels = subst (λ (os : List Pixel). SendsRound c.args.round.now old.touches c.give.new.covers os c.args.clock c.make_steady_room.new.channels c.send_steady.new.channels) c.origins.ensures
                (record { changed = c.in_ok-outgoing.outgoing; sends = c.send_steady.ensures.outgoing });
            gone_are = record { of_channels = c.send_steady.ensures.gone; of_anrs = ap (λ n. n.gone) c.send_steady.ensures.anrs };
            repeat_is = c.remember.ensures;
            displays_are = refl;
            shown_is = refl;
            focus_is = refl;
          };
    }

pub returns-clause-roomy : goal.returns-clause-roomy
returns-clause-roomy c n list roomy modest = (
  refl,
  room_after_steady_round n list c.in_ok-outgoing.outgoing c.args.round.now c.args.routing.now.channels c.make_steady_room.new.channels c.send_steady.new.channels roomy modest
      c.in_ok-outgoing.ensures.same
      c.in_ok-outgoing.ensures.room
      c.send_steady.ensures.spends
      c.send_steady.ensures.left
      c.send_steady.ensures.live,
)

pub returns-in_err-outgoing-clause-roomy : goal.returns-in_err-outgoing-clause-roomy
returns-in_err-outgoing-clause-roomy c n list roomy modest =
    absurd (true≢false (sym (c.in_err-outgoing.ensures.roomy modest.few (room_for_steady_round n list c.args.round.now c.args.routing.now.channels roomy modest))))
