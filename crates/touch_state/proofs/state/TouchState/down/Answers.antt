use Rattle.std.specs.Prelude.{bit_and}
use Rattle.std.proofs.Common.{Bool, false, sym, ap, ◌∙◌, subst, arith}
use Rattle.touch_state.specs.declared.row.Row.{Row}
use Rattle.touch_state.specs.Rows.{row_of, after_give}
use Rattle.touch_state.specs.Touches.{Touches, Changes, nobody, none, of_mask}
use Rattle.touch_state.proofs.Steps.{Turns, kept_after, changes, given_turns}
use Rattle.window_snapshot.specs.Mask.{mask_has}
use Rattle.touch_state.proofs.Tops.{held_none}
use Rattle.touch_state.proofs.state.TouchState.down.Goals as goal

pub invariant_of-self : goal.invariant_of-self
invariant_of-self c =
    kept_after c.give_all.new.rows c.holders_of-self-inside.result c.self.inside.pilferers c.holders_of-self-inside.ensures

pub returns : goal.returns
returns c =
    let old : Touches = record { device = c.self.inside.device; rows = c.self.inside.rows; pilferers = c.self.inside.pilferers } in
    let new : Touches = record { device = c.self.inside.device; rows = c.give_all.new.rows; pilferers = bit_and c.self.inside.pilferers c.holders_of-self-inside.result } in
    subst (λ t. Changes t new (of_mask c.args.to c.args.id) (none) c.args.place nobody) c.self.view_is
    (changes old c.give_all.new.rows c.holders_of-self-inside.result (of_mask c.args.to c.args.id) (none) c.args.place c.holders_of-self-inside.ensures
    (λ w. subst (λ r. Turns (row_of c.self.inside.rows w) r (of_mask c.args.to c.args.id w) (λ i. false) c.args.place) (sym (c.give_all.ensures w)) (given_turns (mask_has c.args.to w) c.args.id c.args.place (row_of c.self.inside.rows w))))

pub give_all-requires-clause-above : goal.give_all-requires-clause-above
give_all-requires-clause-above c w lt = c.top_of-given.ensures.above w (omega (arith, lt, c.max-top.ensures))

pub holders_of-self-inside-requires-clause-above : goal.holders_of-self-inside-requires-clause-above
holders_of-self-inside-requires-clause-above c w lt =
    ap (λ (r : Row). r.ids) (c.give_all.ensures w)
    ∙ ap (λ (b : Bool). (after_give b c.args.id c.args.place (row_of c.self.inside.rows w)).ids)
    (c.top_of-given.ensures.above w (omega (arith, lt, c.max-top.ensures)))
    ∙ held_none c.self.inside.rows c.self.inside.holders c.self.inside.pilferers w c.self.invariant
    (c.top_of-held.ensures.above w (omega (arith, lt, c.max-top.ensures)))
