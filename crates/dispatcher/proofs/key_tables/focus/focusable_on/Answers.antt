use Rattle.std.proofs.Common.{◌∙◌, ap, ◌&&◌}
use Rattle.window_snapshot.specs.Mask.{is_channel}
use Rattle.window_snapshot.specs.Named.{is_focusable_on}
use Rattle.dispatcher.proofs.KeyTables.Focusing.{in_both_so}
use Rattle.dispatcher.proofs.key_tables.focus.focusable_on.Goals as goal

pub returns-in-Some : goal.returns-in-Some
returns-in-Some c =
    λ k. in_both_so c.focusable.result c.args.live k (is_focusable_on c.args.windows.now c.args.display k)
    (c.focusable.ensures k ∙ ap (λ y. is_channel k && is_focusable_on c.args.windows.now y k) c.in-Some.ensures.value)
