use Rattle.std.proofs.Common.{◌==◌, ◌≡◌, ap, sym, ◌∙◌, true, subst}
use Rattle.window_snapshot.specs.Mask.{mask_with}
use Rattle.touch_state.specs.Rows.{AreHolders}
use Rattle.touch_state.specs.Touches.{Touches, any, Changes, none}
use Rattle.touch_state.proofs.Steps.{pilfers_more, kept_pilferer}
use Rattle.touch_state.proofs.state.TouchState.start_pilfer.Goals as goal

pub invariant_of-self : goal.invariant_of-self
invariant_of-self c =
    subst (AreHolders c.self.inside.rows c.self.inside.holders) (sym c.mask_with-self-inside.ensures)
    (kept_pilferer c.self.inside.rows c.self.inside.holders c.self.inside.pilferers c.args.channel c.self.invariant c.requires.channel
    (ap (λ t. any t c.args.channel) c.self.view_is ∙ c.requires.holds))

pub returns : goal.returns
returns c place =
    let old : Touches = record { device = c.self.inside.device; rows = c.self.inside.rows; pilferers = c.self.inside.pilferers } in
    let h : any old c.args.channel ≡ true = ap (λ t. any t c.args.channel) c.self.view_is ∙ c.requires.holds in
    subst (λ m. Changes c.args.self.now (record { device = c.self.inside.device; rows = c.self.inside.rows; pilferers = m }) none none place (λ w. w == c.args.channel))
    (sym c.mask_with-self-inside.ensures)
    (subst (λ t. Changes t (record { device = c.self.inside.device; rows = c.self.inside.rows; pilferers = mask_with c.self.inside.pilferers c.args.channel }) none none place (λ w. w == c.args.channel))
    c.self.view_is (pilfers_more old c.self.inside.holders c.args.channel c.self.invariant c.requires.channel h place))
