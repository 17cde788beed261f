use Rattle.std.proofs.Common.{ap, ◌∙◌, ◌&&◌, List}
use Rattle.window_snapshot.specs.declared.window.Window.{Window}
use Rattle.window_snapshot.specs.Mask.{is_channel, mask_has}
use Rattle.window_snapshot.specs.Named.{is_focusable_on}
use Rattle.window_snapshot.proofs.Masks.{mask_has-mask_of}
use Rattle.window_snapshot.proofs.snapshot.Snapshot.focusable.Goals as goal

pub returns : goal.returns
returns c =
    λ k. ap (λ m. mask_has m k) c.focusable_on.ensures ∙ mask_has-mask_of _ k
    ∙ ap (λ (ws : List Window). is_channel k && is_focusable_on ws c.args.display k) (c.deref.ensures.value ∙ c.self.view_is)
