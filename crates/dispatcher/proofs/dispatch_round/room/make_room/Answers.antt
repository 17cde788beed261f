use Rattle.std.proofs.Common.{◌≤◌, refl, ap, ◌&&◌, sym, subst, ◌∙◌, arith}
use Rattle.std.proofs.lemmas.List.{length-set}
use Rattle.std.proofs.lemmas.Bool.{both_ways, and_parts, and_from, true≢false}
use Rattle.window_snapshot.specs.Mask.{mask_has}
use Rattle.dispatcher.specs.DispatchChannels.Table.{opened, input_of, with_room, NoLessRoom}
use Rattle.dispatcher.proofs.DispatchChannels.Picking.{less_without}
use Rattle.dispatcher.proofs.DispatchChannels.Moved.{reached, all_reached, rest_within}
use Rattle.dispatcher.specs.DispatchRound.Rounds.{is_concerned, most_bodies}
use Rattle.dispatcher.proofs.DispatchRound.Reaching.{not_reached}
use Rattle.dispatcher.proofs.DispatchRound.Rooms.{same_but_room, left_next, made_next, made_enough, still_room, makes_room, no_less, few_next, few_made, still_most}
use Rattle.dispatcher.proofs.dispatch_round.room.make_room.Goals as goal

pub make_room_in-requires : goal.make_room_in-requires
make_room_in-requires c =
    let k = c.first_of-window.result in
    let is = c.loop-rest.invariant.0 k c.first_of-window.ensures.has in
    let high : k ≤ opened c.args.channels.now = c.listeners-outgoing.ensures.opened k is in
    (c.first_of-window.ensures.from, omega (arith, high, c.loop-rest.invariant.3))

pub loop-rest-smaller : goal.loop-rest-smaller
loop-rest-smaller c = rw c.without-rest.ensures (less_without c.loop-rest.rest c.first_of-window.result c.first_of-window.ensures.has)

pub loop-rest-preserved : goal.loop-rest-preserved
loop-rest-preserved c =
    let k = c.first_of-window.result in
    let t = c.loop-rest.channels in
    let has = c.first_of-window.ensures.has in
    let is = c.loop-rest.invariant.0 k has in
    let was : k ≤ opened c.args.channels.now = c.listeners-outgoing.ensures.opened k is in
    let high : k ≤ opened t = omega (arith, was, c.loop-rest.invariant.3) in
    rw (c.without-rest.ensures, c.in_ok-make_room_in.ensures.ok) (
      rest_within _ c.loop-rest.rest k has c.loop-rest.invariant.0,
      same_but_room k _ t ∙ c.loop-rest.invariant.1,
      c.loop-rest.invariant.2,
      length-set t.channels _ _ ∙ c.loop-rest.invariant.3,
      length-set t.inputs _ _ ∙ c.loop-rest.invariant.4 ∙ sym (length-set t.channels _ _),
      made_next c.args.round.now c.args.channels.now t _ c.loop-rest.rest k _ has refl high c.loop-rest.invariant.4 c.loop-rest.invariant.6 c.loop-rest.invariant.5,
      left_next c.args.channels.now t _ c.loop-rest.rest k _ has is c.loop-rest.invariant.6,
      no_less c.args.channels.now t (with_room k (most_bodies c.args.round.now k (input_of t k)) t) c.loop-rest.invariant.7
          (subst (NoLessRoom t) c.in_ok-make_room_in.ensures.ok c.in_ok-make_room_in.ensures.room),
      few_next c.args.round.now c.args.channels.now t _ c.loop-rest.rest k has is c.loop-rest.invariant.6 c.in_ok-make_room_in.ensures.most c.loop-rest.invariant.8,
    )

pub returns-clause-outgoing : goal.returns-clause-outgoing
returns-clause-outgoing c = record {
  are = λ w. c.listeners-outgoing.ensures.are w ∙ ap (λ n. is_concerned c.args.touches.now c.args.round.now w && mask_has n w) (sym c.loop-rest.invariant.2);
  opened = λ w has. let high : w ≤ opened c.args.channels.now = c.listeners-outgoing.ensures.opened w has in omega (arith, high, c.loop-rest.invariant.3);
}

pub returns-clause-ready : goal.returns-clause-ready
returns-clause-ready c w live concerned =
    let outgoing = c.listeners-outgoing.result in
    let is =
    c.listeners-outgoing.ensures.are w
    ∙ and_from (is_concerned c.args.touches.now c.args.round.now w) _ concerned (ap (λ n. mask_has n w) (sym c.loop-rest.invariant.2) ∙ live) in
    made_enough c.args.round.now c.args.channels.now c.loop-rest.channels w
    (c.loop-rest.invariant.5 w (ap (λ n. reached outgoing n w) c.loop-rest-test.false ∙ all_reached outgoing w ∙ is))

pub returns-clause-made : goal.returns-clause-made
returns-clause-made c =
    makes_room c.args.round.now c.args.touches.now _ c.loop-rest.rest c.args.channels.now c.loop-rest.channels c.loop-rest-test.false
    c.listeners-outgoing.ensures.are
    c.loop-rest.invariant.5
    c.loop-rest.invariant.6

pub returns-in_err-make_room_in-clause-reserved : goal.returns-in_err-make_room_in-clause-reserved
returns-in_err-make_room_in-clause-reserved c small ready =
    let k = c.first_of-window.result in
    let has = c.first_of-window.ensures.has in
    let both = and_parts (is_concerned c.args.touches.now c.args.round.now k) _ (sym (c.listeners-outgoing.ensures.are k) ∙ c.loop-rest.invariant.0 k has) in
    absurd (true≢false (sym (c.in_err-make_room_in.ensures.reserved small
    (still_room c.args.round.now c.args.channels.now c.loop-rest.channels k (c.loop-rest.invariant.6 k c.first_of-window.ensures.from (not_reached _ c.loop-rest.rest k has)) (ready k both.1 both.0)))))

pub returns-in_err-make_room_in-clause-calm : goal.returns-in_err-make_room_in-clause-calm
returns-in_err-make_room_in-clause-calm c none =
    let k = c.first_of-window.result in
    let both = and_parts (is_concerned c.args.touches.now c.args.round.now k) _ (sym (c.listeners-outgoing.ensures.are k) ∙ c.loop-rest.invariant.0 k c.first_of-window.ensures.has) in
    absurd (both_ways _ (none k) both.0)

pub returns-clause-few : goal.returns-clause-few
returns-clause-few c w has =
    let outgoing = c.listeners-outgoing.result in
    let is = ap (λ n. reached outgoing n w) c.loop-rest-test.false ∙ all_reached outgoing w ∙ has in
    few_made c.args.round.now c.args.channels.now c.loop-rest.channels w (c.loop-rest.invariant.5 w is) (c.loop-rest.invariant.8 w is)

pub returns-in_err-make_room_in-clause-roomy : goal.returns-in_err-make_room_in-clause-roomy
returns-in_err-make_room_in-clause-roomy c small ready =
    let k = c.first_of-window.result in
    let has = c.first_of-window.ensures.has in
    let both = and_parts (is_concerned c.args.touches.now c.args.round.now k) _ (sym (c.listeners-outgoing.ensures.are k) ∙ c.loop-rest.invariant.0 k has) in
    absurd (true≢false (sym (c.in_err-make_room_in.ensures.roomy small
    (still_most c.args.round.now c.args.channels.now c.loop-rest.channels k (c.loop-rest.invariant.6 k c.first_of-window.ensures.from (not_reached _ c.loop-rest.rest k has)) (ready k both.1 both.0)))))
