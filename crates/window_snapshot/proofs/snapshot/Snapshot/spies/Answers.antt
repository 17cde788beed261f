use Rattle.std.proofs.Common.{sym, ◌∙◌}
use Rattle.std.specs.Int.{w32}
use Rattle.std.proofs.lemmas.Int.{to_z-of_z}
use Rattle.window_snapshot.specs.Hits.{is_spy_at, takes_touch}
use Rattle.window_snapshot.specs.Walls.{reaches}
use Rattle.window_snapshot.proofs.Fronts.{before_first_at, before_first_none}
use Rattle.window_snapshot.proofs.Touching.{mask_has-spies, same_at}
use Rattle.window_snapshot.proofs.snapshot.Snapshot.spies.Goals as goal

pub returns-in-Some : goal.returns-in-Some
returns-in-Some c =
    λ k. mask_has-spies c.windows-windows.result.now _ _ _ _ _
    (before_first_at _ _ _ (sym c.touched_place.ensures ∙ c.in-Some.is) ∙ sym c.split_at.ensures.front)
    c.spy_mask.ensures k
    ∙ same_at (λ ws x y. is_spy_at ws (reaches c.args.reach.now) x y k) _ _ _ _ _ _ c.windows-windows.ensures.windows
    (to_z-of_z w32 c.args.x c.ranges.x) (to_z-of_z w32 c.args.y c.ranges.y)

pub returns-in-None : goal.returns-in-None
returns-in-None c =
    λ k. mask_has-spies c.windows-windows.result.now _ (reaches c.args.reach.now) _ _ _
    (before_first_none (takes_touch (reaches c.args.reach.now) _ _) c.windows-windows.result.now (sym c.touched_place.ensures ∙ c.in-None.is))
    c.spy_mask-in-None.ensures k
    ∙ same_at (λ ws x y. is_spy_at ws (reaches c.args.reach.now) x y k) _ _ _ _ _ _ c.windows-windows.ensures.windows
    (to_z-of_z w32 c.args.x c.ranges.x) (to_z-of_z w32 c.args.y c.ranges.y)
