use Rattle.std.proofs.Common.{◌&&◌, sym, ap, ap₂, ◌∙◌, to_z, of_z}
use Rattle.std.specs.Int.{w32}
use Rattle.std.specs.Option.{option_copied}
use Rattle.std.proofs.lemmas.Int.{to_z-of_z}
use Rattle.window_snapshot.specs.Blocking.{blockers, blockers_of}
use Rattle.window_snapshot.specs.Mask.{is_channel, mask_has}
use Rattle.window_snapshot.specs.Walls.{reaches}
use Rattle.window_snapshot.proofs.Masks.{mask_has-mask_of}
use Rattle.window_snapshot.proofs.Touching.{same_at}
use Rattle.window_snapshot.proofs.snapshot.Snapshot.blockers.Goals as goal

pub returns-in-Some : goal.returns-in-Some
returns-in-Some c =
    λ k. ap (λ m. mask_has m k) c.decisive.ensures
    ∙ mask_has-mask_of _ k
    ∙ ap₂
    (λ front o. is_channel k
    && blockers_of (reaches c.args.reach.now) front (to_z w32 (of_z w32 c.args.x)) (to_z w32 (of_z w32 c.args.y)) o k)
    c.in_front_of-front.ensures
    (sym (ap option_copied c.in-Some.is) ∙ c.window_in.ensures)
    ∙ same_at (λ ws x y. is_channel k && blockers ws (reaches c.args.reach.now) x y c.args.channel k) _ _ _ _ _ _ c.windows-windows.ensures.windows
    (to_z-of_z w32 c.args.x c.ranges.x) (to_z-of_z w32 c.args.y c.ranges.y)
