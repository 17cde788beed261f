use Rattle.std.proofs.Common.{ap, ◌∙◌}
use Rattle.window_snapshot.specs.Mask.{mask_has}
use Rattle.window_snapshot.proofs.Parts.{mask_has-one_less}
use Rattle.window_snapshot.proofs.mask.mask_without.Goals as goal

pub returns-clause-channels : goal.returns-clause-channels
returns-clause-channels c = λ k.
    ap (λ m. mask_has m k) c.mask_less.ensures.value
    ∙ mask_has-one_less c.args.mask c.mask_with.result c.args.channel k c.mask_with.type_inv c.mask_with.ensures
