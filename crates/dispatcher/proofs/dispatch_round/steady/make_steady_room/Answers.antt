use Rattle.std.proofs.Common.{◌≤◌, ap, ◌&&◌, sym, ◌∙◌, arith}
use Rattle.std.proofs.lemmas.Bool.{and_parts, true≢false}
use Rattle.window_snapshot.specs.Mask.{mask_has}
use Rattle.dispatcher.specs.DispatchChannels.Table.{Table, opened}
use Rattle.dispatcher.proofs.DispatchChannels.Picking.{less_without}
use Rattle.dispatcher.proofs.DispatchChannels.Moved.{reached, all_reached, rest_within}
use Rattle.dispatcher.specs.DispatchRound.Rounds.{is_concerned}
use Rattle.dispatcher.proofs.DispatchRound.Rooms.{no_less}
use Rattle.dispatcher.proofs.DispatchRound.Steadily.{steady_next, more_steady}
use Rattle.dispatcher.proofs.dispatch_round.steady.make_steady_room.Goals as goal

pub make_room_in-requires : goal.make_room_in-requires
make_room_in-requires c =
    let k = c.first_of-window.result in
    let is = c.loop-rest.invariant.0 k c.first_of-window.ensures.has in
    let high : k ≤ opened c.args.channels.now = c.recipients-outgoing.ensures.opened k is in
    (c.first_of-window.ensures.from, omega (arith, high, c.loop-rest.invariant.3))

pub loop-rest-smaller : goal.loop-rest-smaller
loop-rest-smaller c = rw c.without-rest.ensures (less_without c.loop-rest.rest c.first_of-window.result c.first_of-window.ensures.has)

pub loop-rest-preserved : goal.loop-rest-preserved
loop-rest-preserved c =
    let k = c.first_of-window.result in
    let t = c.loop-rest.channels in
    let has = c.first_of-window.ensures.has in
    let made = c.in_ok-make_room_in.ensures in
    rw c.without-rest.ensures (
      rest_within _ c.loop-rest.rest k has c.loop-rest.invariant.0,
      made.same ∙ c.loop-rest.invariant.1,
      ap (λ (u : Table). u.live) made.same ∙ c.loop-rest.invariant.2,
      made.opened ∙ c.loop-rest.invariant.3,
      made.inputs ∙ c.loop-rest.invariant.4 ∙ sym made.opened,
      no_less c.args.channels.now t c.make_room_in.new.channels c.loop-rest.invariant.5 made.room,
      steady_next c.args.round.now _ c.loop-rest.rest k t c.make_room_in.new.channels has made.room made.ok c.loop-rest.invariant.6,
    )

pub returns-clause-outgoing : goal.returns-clause-outgoing
returns-clause-outgoing c = record {
  are = λ w. c.recipients-outgoing.ensures.are w ∙ ap (λ n. is_concerned c.args.touches.now c.args.round.now w && mask_has n w) (sym c.loop-rest.invariant.2);
  opened = λ w has. let high : w ≤ opened c.args.channels.now = c.recipients-outgoing.ensures.opened w has in omega (arith, high, c.loop-rest.invariant.3);
}

pub returns-clause-enough : goal.returns-clause-enough
returns-clause-enough c w has =
    let outgoing = c.recipients-outgoing.result in
    c.loop-rest.invariant.6 w (ap (λ n. reached outgoing n w) c.loop-rest-test.false ∙ all_reached outgoing w ∙ has)

pub returns-in_err-make_room_in-clause-roomy : goal.returns-in_err-make_room_in-clause-roomy
returns-in_err-make_room_in-clause-roomy c small ready =
    let k = c.first_of-window.result in
    let has = c.first_of-window.ensures.has in
    let both = and_parts (is_concerned c.args.touches.now c.args.round.now k) _ (sym (c.recipients-outgoing.ensures.are k) ∙ c.loop-rest.invariant.0 k has) in
    let now = more_steady c.args.round.now c.args.channels.now c.loop-rest.channels k c.loop-rest.invariant.5 (ready k both.1) in
    absurd (true≢false (sym (c.in_err-make_room_in.ensures.roomy small now)))
