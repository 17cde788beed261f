use Rattle.std.proofs.Common.{IsTrue, ◌↔◌, subst}
use Rattle.window_snapshot.specs.Mask.{mask_has}
use Rattle.touch_state.specs.Touches.{Touches, IsEarliest}
use Rattle.touch_state.proofs.Least.{earliest_none, earliest_some}
use Rattle.touch_state.proofs.state.TouchState.earliest.Goals as goal

pub returns-in-Some : goal.returns-in-Some
returns-in-Some c w =
    let t : Touches = record { device = c.self.inside.device; rows = c.self.inside.rows; pilferers = c.self.inside.pilferers } in
    subst (λ t. IsTrue (mask_has c.began_at.result w) ↔ IsEarliest t c.args.among w) c.self.view_is
    (earliest_some t c.self.inside.holders c.args.among c.in-Some.place c.began_at.result c.self.invariant c.in-Some.ensures c.began_at.ensures w)

pub returns-in-None : goal.returns-in-None
returns-in-None c w =
    let t : Touches = record { device = c.self.inside.device; rows = c.self.inside.rows; pilferers = c.self.inside.pilferers } in
    subst (λ t. IsTrue (mask_has 0 w) ↔ IsEarliest t c.args.among w) c.self.view_is
    (earliest_none t c.self.inside.holders c.args.among c.self.invariant c.in-None.ensures w)
