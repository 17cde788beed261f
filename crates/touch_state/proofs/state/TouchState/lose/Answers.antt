use Rattle.std.specs.Prelude.{bit_and}
use Rattle.std.proofs.Common.{subst}
use Rattle.touch_state.specs.Rows.{row_of}
use Rattle.touch_state.specs.Touches.{Touches, Changes, nobody, none, of_set}
use Rattle.touch_state.proofs.Steps.{kept_after, changes, taken_turns}
use Rattle.touch_state.proofs.state.TouchState.lose.Goals as goal

pub invariant_of-self : goal.invariant_of-self
invariant_of-self c =
    kept_after c.remove.new.rows c.holders_of-self-inside.result c.self.inside.pilferers c.holders_of-self-inside.ensures

pub returns : goal.returns
returns c place =
    let old : Touches = record { device = c.self.inside.device; rows = c.self.inside.rows; pilferers = c.self.inside.pilferers } in
    let new : Touches = record { device = c.self.inside.device; rows = c.remove.new.rows; pilferers = bit_and c.self.inside.pilferers c.holders_of-self-inside.result } in
    subst (λ t. Changes t new (none) (of_set c.args.channel c.args.ids) place nobody) c.self.view_is
    (changes old c.remove.new.rows c.holders_of-self-inside.result (none) (of_set c.args.channel c.args.ids) place c.holders_of-self-inside.ensures
    (λ w. taken_turns (of_set c.args.channel c.args.ids w) (row_of c.self.inside.rows w) (row_of c.remove.new.rows w) place (c.remove.ensures w)))
