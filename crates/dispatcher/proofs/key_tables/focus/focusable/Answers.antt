use Rattle.std.proofs.Common.{◌&&◌}
use Rattle.window_snapshot.specs.Mask.{mask_has}
use Rattle.window_snapshot.specs.Named.{is_focusable_on}
use Rattle.dispatcher.proofs.KeyTables.Focusing.{four_masks}
use Rattle.dispatcher.proofs.key_tables.focus.focusable.Goals as goal

pub returns : goal.returns
returns c =
    four_masks c.focusable_on.result c.focusable_on-2.result c.focusable_on-3.result c.focusable_on-4.result
    (λ y k. mask_has c.args.live k && is_focusable_on c.args.windows.now y k)
    c.focusable_on.ensures c.focusable_on-2.ensures c.focusable_on-3.ensures c.focusable_on-4.ensures
