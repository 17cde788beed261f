use Rattle.std.proofs.Common.{◌≡◌, ◌≤◌, ℕ, length, drop}
use Rattle.dispatcher.specs.Shown.{origin_at}
use Rattle.dispatcher.specs.Showing.{origins_from}
use Rattle.dispatcher.proofs.shown.move_origins.Given as goal

abbrev pub invariant-windows : goal.invariant-windows
invariant-windows l = record {
  within : l.left ≤ length l.windows;
  origins_are :
      (w : ℕ) → 1 ≤ w → w ≤ 64 → origin_at l.origins w ≡ origins_from (drop l.left l.windows) w (origin_at l.initial.origins w);
}

abbrev pub decreases-windows : goal.decreases-windows
decreases-windows l = l.left
