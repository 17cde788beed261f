use Rattle.std.proofs.Common.{ℕ, ◌&&◌, nat_le}
use Rattle.window_snapshot.specs.Mask.{mask_has}
use Rattle.touch_state.specs.Touches.{Changes, none, nobody}
use Rattle.route_split.proofs.marking.empty_windows_of.Given as goal

-- it is taken from the windows up to k
abbrev pub invariant-loop-k : goal.invariant-loop-k
invariant-loop-k l = (place : ℕ) → Changes l.fn.state l.state none (λ w i. nat_le w l.k && mask_has l.emptied w) place nobody
