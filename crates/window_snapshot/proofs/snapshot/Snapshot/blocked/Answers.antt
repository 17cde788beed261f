use Rattle.std.proofs.Common.{ap, ◌∙◌, ◌&&◌, to_z, of_z}
use Rattle.std.specs.Int.{w32}
use Rattle.std.proofs.lemmas.Int.{to_z-of_z}
use Rattle.window_snapshot.specs.Mask.{mask_has}
use Rattle.window_snapshot.specs.Occlusion.{is_blocked, is_blocked_at}
use Rattle.window_snapshot.specs.Walls.{reaches}
use Rattle.window_snapshot.proofs.Among.{mask_has-among}
use Rattle.window_snapshot.proofs.Touching.{same_at}
use Rattle.window_snapshot.proofs.snapshot.Snapshot.blocked.Goals as goal

pub returns : goal.returns
returns c =
    λ k. ap (λ m. mask_has m k) c.blocked_mask.ensures ∙ mask_has-among c.args.among (is_blocked c.windows.result.now (reaches c.args.reach.now) (to_z w32 (of_z w32 c.args.x)) (to_z w32 (of_z w32 c.args.y))) c.windows.result.now k
    ∙ same_at (λ ws x y. mask_has c.args.among k && is_blocked_at ws (reaches c.args.reach.now) x y k) _ _ _ _ _ _ c.windows.ensures.windows
    (to_z-of_z w32 c.args.x c.ranges.x) (to_z-of_z w32 c.args.y c.ranges.y)
