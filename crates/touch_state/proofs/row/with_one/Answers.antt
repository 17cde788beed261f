use Rattle.std.proofs.Common.{ap, ◌∙◌}
use Rattle.window_snapshot.specs.Mask.{mask_has}
use Rattle.touch_state.proofs.Passes.{noted_one}
use Rattle.touch_state.proofs.row.with_one.Goals as goal

pub returns-then-began : goal.returns-then-began
returns-then-began c w =
    ap (λ m. mask_has m w) c.mask_with.ensures ∙ rw (c.if-hit.true, c.if-began.true) (noted_one c.args.mask c.args.channel c.requires w)
