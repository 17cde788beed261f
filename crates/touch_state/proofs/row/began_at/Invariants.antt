use Rattle.std.proofs.Common.{ℕ, ◌≡◌, ◌&&◌, ◌==◌, nat_le}
use Rattle.window_snapshot.specs.Mask.{mask_has}
use Rattle.touch_state.specs.Rows.{row_of}
use Rattle.touch_state.proofs.row.began_at.Given as goal

abbrev pub invariant-loop-k : goal.invariant-loop-k
invariant-loop-k l = (w : ℕ) → mask_has l.began w ≡ (nat_le w l.k && (mask_has l.hits w && (row_of l.rows w).since == l.place))
