use Rattle.std.proofs.Common.{ap, subst}
use Rattle.touch_state.specs.declared.row.Row.{Row}
use Rattle.touch_state.specs.Touches.{Touches, Changes, none, everything, nobody}
use Rattle.touch_state.proofs.Steps.{nobody_kept, emptied}
use Rattle.touch_state.proofs.state.TouchState.reset.Goals as goal

pub invariant_of-self : goal.invariant_of-self
invariant_of-self c = nobody_kept c.empty_all.new.rows (λ w. ap (λ (r : Row). r.ids) (c.empty_all.ensures w))

pub returns : goal.returns
returns c place =
    let old : Touches = record { device = c.self.inside.device; rows = c.self.inside.rows; pilferers = c.self.inside.pilferers } in
    let new : Touches = record { device = c.self.inside.device; rows = c.empty_all.new.rows; pilferers = 0 } in
    subst (λ t. Changes t new none everything place nobody) c.self.view_is (emptied old c.empty_all.new.rows place c.empty_all.ensures)
