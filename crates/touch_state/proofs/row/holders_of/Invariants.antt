use Rattle.std.proofs.Common.{ℕ, ◌≡◌, ◌&&◌, ◌==◌, nat_le, not}
use Rattle.window_snapshot.specs.Mask.{mask_has}
use Rattle.touch_state.specs.Rows.{row_of}
use Rattle.touch_state.proofs.row.holders_of.Given as goal

-- the mask has the windows that are passed and hold something
abbrev pub invariant-loop-k : goal.invariant-loop-k
invariant-loop-k l = (w : ℕ) → mask_has l.holders w ≡ (nat_le w l.k && not ((row_of l.rows w).ids == 0))
