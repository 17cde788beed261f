use Rattle.std.specs.Prelude.{bit_and}
use Rattle.std.proofs.Common.{◌==◌, subst}
use Rattle.touch_state.specs.Rows.{row_of}
use Rattle.touch_state.specs.Touches.{Touches, Changes, nobody, none, of_all}
use Rattle.touch_state.proofs.Steps.{kept_after, changes, taken_turns}
use Rattle.touch_state.proofs.Tops.{held_none, taken_none}
use Rattle.touch_state.proofs.state.TouchState.up.Goals as goal

pub invariant_of-self : goal.invariant_of-self
invariant_of-self c =
    kept_after c.lift_all.new.rows c.holders_of-self-inside.result c.self.inside.pilferers c.holders_of-self-inside.ensures

pub returns : goal.returns
returns c place =
    let old : Touches = record { device = c.self.inside.device; rows = c.self.inside.rows; pilferers = c.self.inside.pilferers } in
    let new : Touches = record { device = c.self.inside.device; rows = c.lift_all.new.rows; pilferers = bit_and c.self.inside.pilferers c.holders_of-self-inside.result } in
    subst (λ t. Changes t new (none) (of_all c.args.id) place nobody) c.self.view_is
    (changes old c.lift_all.new.rows c.holders_of-self-inside.result (none) (of_all c.args.id) place c.holders_of-self-inside.ensures
    (λ w. taken_turns (λ i. i == c.args.id) (row_of c.self.inside.rows w) (row_of c.lift_all.new.rows w) place (c.lift_all.ensures w)))

pub holders_of-self-inside-requires-clause-above : goal.holders_of-self-inside-requires-clause-above
holders_of-self-inside-requires-clause-above c w lt =
    taken_none (λ i. i == c.args.id) (row_of c.self.inside.rows w) (row_of c.lift_all.new.rows w) (c.lift_all.ensures w)
    (held_none c.self.inside.rows c.self.inside.holders c.self.inside.pilferers w c.self.invariant (c.top_of-top.ensures.above w lt))
