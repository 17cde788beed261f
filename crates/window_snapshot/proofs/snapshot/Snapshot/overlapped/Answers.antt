use Rattle.std.proofs.Common.{ap, ◌∙◌, ◌&&◌, List}
use Rattle.window_snapshot.specs.declared.window.Window.{Window}
use Rattle.window_snapshot.specs.Mask.{mask_has}
use Rattle.window_snapshot.specs.Occlusion.{is_overlapped, is_overlapped_on}
use Rattle.window_snapshot.specs.Walls.{reaches}
use Rattle.window_snapshot.proofs.Among.{mask_has-among}
use Rattle.window_snapshot.proofs.snapshot.Snapshot.overlapped.Goals as goal

pub returns : goal.returns
returns c =
    λ k. ap (λ m. mask_has m k) c.overlapped_mask.ensures ∙ mask_has-among c.args.among (is_overlapped c.windows.result.now (reaches c.args.reach.now)) c.windows.result.now k
    ∙ ap (λ (ws : List Window). mask_has c.args.among k && is_overlapped_on ws (reaches c.args.reach.now) k) c.windows.ensures.windows
