use Rattle.std.specs.Prelude.{bit_and}
use Rattle.std.proofs.Common.{◌==◌, subst}
use Rattle.touch_state.specs.Rows.{row_of}
use Rattle.touch_state.specs.Touches.{Touches, Changes, nobody, one}
use Rattle.touch_state.proofs.Steps.{kept_after, changes, slipped_turns}
use Rattle.touch_state.proofs.state.TouchState.moved.Goals as goal

pub invariant_of-self : goal.invariant_of-self
invariant_of-self c =
    kept_after c.slip.new.rows c.holders_of-self-inside.result c.self.inside.pilferers c.holders_of-self-inside.ensures

pub returns : goal.returns
returns c =
    let old : Touches = record { device = c.self.inside.device; rows = c.self.inside.rows; pilferers = c.self.inside.pilferers } in
    let new : Touches = record { device = c.self.inside.device; rows = c.slip.new.rows; pilferers = bit_and c.self.inside.pilferers c.holders_of-self-inside.result } in
    subst (λ t. Changes t new (one c.args.to c.args.id) (one c.args.from c.args.id) c.args.place nobody) c.self.view_is
    (changes old c.slip.new.rows c.holders_of-self-inside.result (one c.args.to c.args.id) (one c.args.from c.args.id) c.args.place c.holders_of-self-inside.ensures
    (λ w. slipped_turns (w == c.args.from) (w == c.args.to) c.args.id c.args.place (row_of c.self.inside.rows w) (row_of c.slip.new.rows w) (c.slip.ensures w)))
