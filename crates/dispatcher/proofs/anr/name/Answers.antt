use Rattle.std.proofs.Common.{None, refl, sym, ap, subst, ◌∙◌, unwrap_or, le_refl}
use Rattle.route_split.specs.declared.mark.Mark.TheVariants.{Mute}
use Rattle.dispatcher.specs.declared.dispatch_round.round.Round.{Round}
use Rattle.dispatcher.specs.DispatchRound.Rounds.{AreListeners, IsReady}
use Rattle.dispatcher.specs.Carrying.{CarriesOut}
use Rattle.dispatcher.specs.Tables.{SameButRoom}
use Rattle.dispatcher.proofs.Room.Oks.{on_err}
use Rattle.dispatcher.proofs.Made.Timely.{timely_room, timely_named}
use Rattle.dispatcher.proofs.anr.name.Goals as goal

pub carry_out-requires-clause-timely : goal.carry_out-requires-clause-timely
carry_out-requires-clause-timely c =
    timely_named c.args.clock c.args.mask c.args.clock c.make_room.new.channels c.name.new.self c.in_ok-name.ensures.ok
    (timely_room c.args.clock c.args.routing.now.channels c.make_room.new.channels c.in_ok-outgoing.ensures.same c.requires)

pub carry_out-requires-clause-outgoing : goal.carry_out-requires-clause-outgoing
carry_out-requires-clause-outgoing c =
    subst (AreListeners c.in_ok-outgoing.outgoing c.args.routing.now.touches _) (sym c.in_ok-name.ensures.ok)
    (record { are = c.in_ok-outgoing.ensures.outgoing.are; opened = c.in_ok-outgoing.ensures.outgoing.opened })

pub carry_out-requires-clause-ready : goal.carry_out-requires-clause-ready
carry_out-requires-clause-ready c =
    let round : Round =
    record { mark = Mute c.args.mask; motion = None; gift = None; watchers = 0; target = c.unwrap_or.result; keys = c.args.keys; lost = 0; gained = 0 } in
    subst (IsReady c.args.routing.now.touches round) (sym c.in_ok-name.ensures.ok)
    (λ w lives concerned.
    let has = c.in_ok-outgoing.ensures.ready w lives concerned in
    record { room = has.room; track_room = has.track_room })

pub returns-in_err-name-clause-err : goal.returns-in_err-name-clause-err
returns-in_err-name-clause-err c =
    let old = c.args.routing.now in
    on_err _ c.from_residual-in_err-name.result
    (subst (λ t. SameButRoom old (record old { channels = t })) (sym c.in_err-name.ensures.err)
    (ap (λ t. record old { channels = t; cancelled = 0 }) c.in_ok-outgoing.ensures.same, c.in_ok-outgoing.ensures.room, le_refl old.cancelled))

pub returns-clause-ok : goal.returns-clause-ok
returns-clause-ok c =
    let old = c.args.routing.now in
    let round : Round =
    record { mark = Mute c.args.mask; motion = None; gift = None; watchers = 0; target = c.unwrap_or.result; keys = c.args.keys; lost = 0; gained = 0 } in
    record {
      round = round;
      is =
          record {
            mark_is = refl;
            motion_is = refl;
            gift_is = refl;
            target_is = c.unwrap_or.ensures ∙ ap (λ o. unwrap_or o 0) c.target.ensures;
            keys_are = refl;
            lost_is = refl;
            gained_is = refl;
          };
      mid = c.make_room.new.channels;
      same = c.in_ok-outgoing.ensures.same;
      carries =
          subst (λ t. CarriesOut round c.args.place c.args.clock (record old { channels = t }) c.carry_out.new.routing) c.in_ok-name.ensures.ok
          c.carry_out.ensures.carries;
    }
