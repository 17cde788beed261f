use Rattle.std.proofs.Common.{ℕ, ◌≡◌, ◌&&◌, nat_le}
use Rattle.window_snapshot.specs.Mask.{mask_has}
use Rattle.touch_state.specs.Touches.{holds}
use Rattle.route_split.proofs.holding.holding.Given as goal

-- the mask has the windows that are passed and hold the pointer
abbrev pub invariant-loop-k : goal.invariant-loop-k
invariant-loop-k l = (w : ℕ) → mask_has l.mask w ≡ (nat_le w l.k && holds l.table w l.id)
