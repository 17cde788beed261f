use Rattle.std.proofs.Common.{◌==◌, ◌||◌, ◌&&◌, not, ap, sym, ◌∙◌}
use Rattle.std.proofs.lemmas.Bool.{ne_eqb}
use Rattle.window_snapshot.specs.Mask.{mask_has}
use Rattle.touch_state.proofs.Passes.{noted_one}
use Rattle.touch_state.proofs.row.noted.Goals as goal

pub returns-else-bits-eq0 : goal.returns-else-bits-eq0
returns-else-bits-eq0 c w =
    ap (λ m. mask_has m w) c.mask_with.ensures
    ∙ noted_one c.args.holders c.args.channel c.requires w
    ∙ ap (λ b. mask_has c.args.holders w || (w == c.args.channel && not b))
    (sym (ne_eqb c.args.row.ids 0 (λ e. c.if-bits-eq0.false (c.bits.ensures ∙ e))))
