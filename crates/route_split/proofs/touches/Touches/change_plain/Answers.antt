use Rattle.std.proofs.Common.{◌≡◌, List, length, ◌++◌, take, drop, sym, ap, subst, ◌∙◌}
use Rattle.touch_state.specs.Touches.{Touches}
use Rattle.route_split.specs.Tables.{IsTables}
use Rattle.route_split.specs.Marking.{gives, taking}
use Rattle.routing_rules.specs.Taking.{takes, pilfers}
use Rattle.route_split.proofs.Arms.{ChangesBy}
use Rattle.route_split.proofs.Changing.{whole_again, tables_after}
use Rattle.route_split.proofs.touches.Touches.change_plain.Goals as goal

pub invariant_of-self : goal.invariant_of-self
invariant_of-self c =
    let items : List Touches = c.self.inside.states.items in
    let us : List Touches = c.change_plain.new.states in
    let same : length us ≡ length items = c.change_plain.auto.states ∙ ap length c.deref_mut.ensures.value in
    let back : take c.self.inside.states.len (us ++ drop (length us) items) ≡ us = whole_again items us c.self.inside.states.len same c.self.inside.states.ok.0 in
    let changed : ChangesBy items us c.args.mark.now c.args.place = subst (λ z. ChangesBy z us c.args.mark.now c.args.place) c.deref_mut.ensures.value c.change_plain.ensures in
    let k = c.args.mark.now in
    subst IsTables (sym back)
    (tables_after items us (gives k) (takes (taking items k)) c.args.place (pilfers (taking items k)) changed (same ∙ c.self.invariant.eight))

pub returns : goal.returns
returns c =
    let items : List Touches = c.self.inside.states.items in
    let us : List Touches = c.change_plain.new.states in
    let same : length us ≡ length items = c.change_plain.auto.states ∙ ap length c.deref_mut.ensures.value in
    let back : take c.self.inside.states.len (us ++ drop (length us) items) ≡ us = whole_again items us c.self.inside.states.len same c.self.inside.states.ok.0 in
    subst (λ z. ChangesBy c.args.self.now z c.args.mark.now c.args.place) (sym back)
    (subst (λ z. ChangesBy z us c.args.mark.now c.args.place) (c.deref_mut.ensures.value ∙ c.self.view_is) c.change_plain.ensures)
