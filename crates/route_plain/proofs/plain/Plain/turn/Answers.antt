use Rattle.std.proofs.Common.{ap, ◌∙◌}
use Rattle.route_plain.specs.State.{State, scene_before}
use Rattle.route_plain.specs.Route.{step_of, said_at, state_after}
use Rattle.route_plain.proofs.NextState.{state_is}
use Rattle.route_plain.proofs.plain.Plain.turn.Goals as goal

pub returns-clause-said : goal.returns-clause-said
returns-clause-said c =
    let windows = c.args.snapshot.now in
    rw (c.deref.ensures.value, c.deref-2.ensures.value) at c.in_ok-said.ensures
    ∙ ap (λ (st : State). said_at (scene_before st windows c.args.live c.args.able) (step_of c.args.turn.now windows)) c.self.view_is

pub returns-clause-state : goal.returns-clause-state
returns-clause-state c =
    let here : State = record { turns = c.self.inside.turns; holds = c.self.inside.holds.items; pilferers = c.self.inside.pilferers.items; last = c.self.inside.last } in
    let windows = c.args.snapshot.now in
    state_is (scene_before here windows c.args.live c.args.able) (step_of c.args.turn.now windows) here _ c.gain.new.holds.items
    c.in_ok-change.change.gained.items c.lose.new.holds.items c.in_ok-change.change.loss c.note_pilferer.new.pilferers.items
    c.keep_pilferers.new.pilferers.items c.note_places.new.last (rw (c.deref.ensures.value, c.deref-2.ensures.value) at c.in_ok-change.ensures)
    (rw (c.windows.ensures.windows, c.reserve.ensures.items) at c.lose.ensures.items) (rw c.deref-3.ensures.value at c.gain.ensures)
    (rw c.reserve-2.ensures.items at (c.note_pilferer.ensures windows)) (rw c.deref-4.ensures.value at c.keep_pilferers.ensures)
    (c.note_places.ensures windows) c.next_turn-self-inside.ensures
    ∙ ap (λ (st : State). state_after (scene_before st windows c.args.live c.args.able) (step_of c.args.turn.now windows) st) c.self.view_is
